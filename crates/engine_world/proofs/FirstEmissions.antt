-- The emission that is an engine's first task.
use Rattle.std.proofs.Common.{◌≡◌, ◌∷◌}
use Rattle.ui_machine.specs.Definition as machine
use Rattle.engine_stack.specs.FirstEmissions.{emitting}
use Rattle.engine_stack.proofs.FirstEmissions.{starts}
use Rattle.engine_world.specs.FirstEmissions.{IsEmission, first_emitted}
use Rattle.engine_world.specs.FirstPrograms.{rest_of}
use Rattle.engine_world.specs.TaskView.{agenda_of}
use Rattle.engine_world.specs.declared.engine.Engine.{Engine}

-- the same of an engine
pub begins : (d : machine.Definition) (e : Engine) → IsEmission e → agenda_of d e ≡ emitting (first_emitted e) e.world.handlers.handlers ∷ rest_of d e
begins d e first = starts d e.world.handlers.handlers e.stack first
