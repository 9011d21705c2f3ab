-- The program that is the first task.
use Rattle.std.specs.Prelude.{◌≡◌, ◌-◌, List, [], ◌∷◌, drop, length, IsSome, Option, None, Some, option_and_then, slice_get}
use Rattle.ui_machine.specs.Definition as machine
use Rattle.ui_machine.specs.State.Handlers.{Handler}
use Rattle.ui_machine.specs.State.Tasks as config
use Rattle.frames.specs.FrameView.{frame_view}
use Rattle.frames.specs.declared.frame.Frame.{Frame}
use Rattle.engine_stack.specs.TaskView.{tasks_of}
use Rattle.engine_stack.specs.declared.stacks.Frames.{Frames}
use Rattle.engine_stack.specs.declared.task.Task.{Task}
pub use Rattle.engine_stack.specs.TaskFrames.{program_in}

-- the program that is the first of some tasks, the first of which is the last of the list
abbrev pub first_program : List Task → Option Frame
first_program items = option_and_then program_in (slice_get items (length items - 1))

-- the frame of a program that is there, or an empty one
abbrev pub frame_in : Option Frame → config.Frame
frame_in None = record { program = 0; block = 0; at = 0; passes = 0; into = None; registers = [] }
frame_in (Some f) = frame_view f

-- the frame of the first task of a stack, or an empty one where that is no program
unfoldable pub stack_frame : Frames → config.Frame
stack_frame s = frame_in (first_program s.tasks.items)

-- the first task is a program, and the tasks below it are those that were below the first one
pub record IsRewritten (old new : Frames) : Type 0 where
  pub first : IsSome (first_program new.tasks.items)
  pub tasks : (d : machine.Definition) (hs : List Handler) → tasks_of d hs new ≡ config.Running (stack_frame new) ∷ drop 1 (tasks_of d hs old)
