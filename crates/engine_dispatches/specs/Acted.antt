-- The machine's step of a task that was taken off.
use Rattle.std.specs.Prelude.{◌∷◌, None}
use Rattle.ui_machine.specs.Definition as machine
use Rattle.ui_machine.specs.Outcome.{Answer}
use Rattle.ui_machine.specs.State.Config.{Config}
use Rattle.ui_machine.specs.Steps.{act}
use Rattle.engine_world.specs.Standing.{past_turns}
use Rattle.engine_world.specs.TaskView.{agenda_of, task_in}
use Rattle.engine_world.specs.View.{world_of}
use Rattle.engine_world.specs.declared.engine.Engine.{Engine}
use Rattle.engine_stack.specs.declared.task.Task.{Task}

-- an emission is past the turns that are passed over
abbrev pub acted : machine.Definition → Engine → Task → Answer Config
acted d e task = act d (world_of e.world) None (past_turns (world_of e.world) (task_in d e task) ∷ agenda_of d e) e.counted
