use Rattle.std.proofs.Common.{◌≡◌, map, take}
use Rattle.g_values.specs.View.{value_view}
use Rattle.instance_tables.specs.Weak.{masked, dropped_value}
use Rattle.instance_tables.proofs.object_values.drop_values.Given as goal

abbrev pub invariant-loop-slot : goal.invariant-loop-slot
invariant-loop-slot l = map value_view l.values ≡ masked dropped_value (take l.slot l.weak) (map value_view l.fn.values)
