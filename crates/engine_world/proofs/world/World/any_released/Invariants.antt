use Rattle.std.proofs.Common.{◌≡◌, length, map}
use Rattle.std.specs.List.{list_any}
use Rattle.ui_machine.specs.Rules.Events.{gives_released}
use Rattle.definition_format.specs.Meaning.{given_view}
use Rattle.engine_world.specs.View.{world_of}
use Rattle.engine_world.proofs.world.World.any_released.Given as goal

abbrev pub invariant-given : goal.invariant-given
invariant-given l = list_any (gives_released (world_of l.self)) (map given_view l.left) ≡ list_any (gives_released (world_of l.self)) (map given_view l.given)

abbrev pub decreases-given : goal.decreases-given
decreases-given l = length l.left
