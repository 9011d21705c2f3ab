use Rattle.std.proofs.Common.{◌≡◌, ◌++◌, drop, map, Ok}
use Rattle.ui_machine.specs.Outcome.{◌>>=◌}
use Rattle.ui_machine.specs.Rules.Events.{given_values}
use Rattle.g_values.specs.View.{value_view}
use Rattle.definition_format.specs.Meaning.{given_view}
use Rattle.engine_world.specs.View.{world_of}
use Rattle.engine_world.proofs.arguments.add_operands.Given as goal

abbrev pub invariant-loop-one : goal.invariant-loop-one
invariant-loop-one l =
    given_values (world_of l.engine.world) (map given_view l.given)
    ≡ (given_values (world_of l.engine.world) (map given_view (drop l.one-index l.given)) >>= λ rest. Ok (map value_view l.values.items ++ rest))
