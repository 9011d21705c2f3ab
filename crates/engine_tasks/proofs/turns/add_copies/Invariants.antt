use Rattle.std.proofs.Common.{◌≡◌, ◌++◌, drop, map}
use Rattle.g_values.specs.View.{value_view}
use Rattle.bytecode.specs.Computing.{registers_of}
use Rattle.engine_tasks.proofs.TurnTaking.{filled}
use Rattle.engine_tasks.proofs.turns.add_copies.Given as goal

abbrev pub invariant-loop-value : goal.invariant-loop-value
invariant-loop-value l = registers_of l.registers.items ++ filled (map value_view (drop l.value-index l.values)) ≡ registers_of l.fn.registers.items ++ filled (map value_view l.values)
