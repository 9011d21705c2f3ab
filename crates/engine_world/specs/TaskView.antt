-- What the tasks of an engine denote in the machine.
use Rattle.std.specs.Prelude.{List}
use Rattle.ui_machine.specs.Definition as machine
use Rattle.ui_machine.specs.State.Tasks as config
use Rattle.engine_stack.specs.TaskView.{task_of, tasks_of}
use Rattle.engine_stack.specs.declared.task.Task.{Task}
use Rattle.engine_world.specs.declared.engine.Engine.{Engine}

-- a task of the engine
abbrev pub task_in : machine.Definition → Engine → Task → config.Task
task_in d e task = task_of d e.world.handlers.handlers task

-- the machine's agenda
abbrev pub agenda_of : machine.Definition → Engine → List config.Task
agenda_of d e = tasks_of d e.world.handlers.handlers e.stack
