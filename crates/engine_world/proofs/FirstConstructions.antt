-- The construction that is an engine's first task.
use Rattle.std.proofs.Common.{◌≡◌, ◌∷◌}
use Rattle.ui_machine.specs.Definition as machine
use Rattle.engine_stack.specs.FirstConstructions.{constructing_task}
use Rattle.engine_stack.proofs.FirstConstructions.{starts}
use Rattle.engine_world.specs.FirstConstructions.{IsConstruction, first_constructed}
use Rattle.engine_world.specs.FirstPrograms.{rest_of}
use Rattle.engine_world.specs.TaskView.{agenda_of}
use Rattle.engine_world.specs.declared.engine.Engine.{Engine}

-- the same of an engine
pub begins : (d : machine.Definition) (e : Engine) → IsConstruction e → agenda_of d e ≡ constructing_task (first_constructed e) ∷ rest_of d e
begins d e first = starts d e.world.handlers.handlers e.stack first
