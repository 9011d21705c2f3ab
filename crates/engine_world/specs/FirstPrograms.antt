-- The program that is an engine's first task.
use Rattle.std.specs.Prelude.{List, drop, IsSome}
use Rattle.ui_machine.specs.Definition as machine
use Rattle.ui_machine.specs.State.Tasks as config
use Rattle.engine_stack.specs.FirstPrograms.{first_program, stack_frame}
use Rattle.engine_world.specs.TaskView.{agenda_of}
use Rattle.engine_world.specs.declared.engine.Engine.{Engine}

-- its first task is a program
abbrev pub IsProgram : Engine → Type 0
IsProgram e = IsSome (first_program e.stack.tasks.items)

-- the frame of that program
abbrev pub first_frame : Engine → config.Frame
first_frame e = stack_frame e.stack

-- the tasks behind the first one
abbrev pub rest_of : machine.Definition → Engine → List config.Task
rest_of d e = drop 1 (agenda_of d e)
