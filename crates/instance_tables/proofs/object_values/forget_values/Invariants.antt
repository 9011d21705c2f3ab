use Rattle.std.proofs.Common.{◌≡◌, map, take}
use Rattle.g_values.specs.View.{value_view}
use Rattle.instance_tables.specs.Weak.{masked, forgotten_value}
use Rattle.instance_tables.proofs.object_values.forget_values.Given as goal

abbrev pub invariant-loop-slot : goal.invariant-loop-slot
invariant-loop-slot l = map value_view l.values ≡ masked (forgotten_value l.id.0) (take l.slot l.weak) (map value_view l.fn.values)
