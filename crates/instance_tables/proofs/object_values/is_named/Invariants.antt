use Rattle.std.proofs.Common.{◌≡◌, map, drop}
use Rattle.g_values.specs.View.{value_view}
use Rattle.instance_tables.specs.Names.{names_any}
use Rattle.instance_tables.proofs.object_values.is_named.Given as goal

-- as far as it has come no value names it
abbrev pub invariant-values : goal.invariant-values
invariant-values l = names_any l.id.0 (map value_view l.values) ≡ names_any l.id.0 (map value_view (drop l.value-index l.values))
