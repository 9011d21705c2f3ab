-- The frames among the tasks of a stack.
use Rattle.std.specs.Prelude.{◌≡◌, List, [], ◌∷◌, ◌++◌, map, Option, None, Some, option_map, vec_capacity}
use Rattle.std.specs.List.{flat_map}
use Rattle.std.specs.Option.{option_to_list}
use Rattle.ui_machine.specs.Definition.Values as machine
use Rattle.bytecode.specs.Computing.{registers_of}
use Rattle.g_values.specs.View.{value_view}
use Rattle.g_values.specs.declared.value.Value.{Value}
use Rattle.engine_stack.specs.declared.plain_frames.Frame.{Frame}
use Rattle.engine_stack.specs.declared.plain_frames.Frame.TheVariants as frames
use Rattle.engine_stack.specs.declared.stacks.Frames.{Frames}
use Rattle.engine_stack.specs.declared.task.Task.{Task}
use Rattle.engine_stack.specs.declared.task.Task.TheVariants as tasks

-- a frame with its values, of which a register may be unset
pub record ListedFrame : Type 0 where
  pub frame : Frame
  pub values : List (Option machine.Value)

-- values that are all there
abbrev pub given_values : List Value → List (Option machine.Value)
given_values values = map (λ v. Some (value_view v)) values

-- the frame of a task that is one
abbrev pub listed : Task → Option ListedFrame
listed (tasks.Running f) = Some (record { frame = frames.Program f.program; values = registers_of f.registers.items })
listed (tasks.Emitting f) = Some (record { frame = frames.Emission f.cursor; values = given_values f.args.items })
listed (tasks.Constructing f) = Some (record { frame = frames.Construction f.object; values = [] })
listed _ = None

-- the frames among these tasks, the last one on top
abbrev pub frames_among : List Task → List ListedFrame
frames_among items = flat_map (λ t. option_to_list (listed t)) items

-- the frames of a stack
abbrev pub frames_of : Frames → List ListedFrame
frames_of s = frames_among s.tasks.items

-- the values of a frame that is pushed with these: all of them, and none of a construction
abbrev pub values_kept : Frame → List (Option machine.Value) → List (Option machine.Value)
values_kept (frames.Construction object) values = []
values_kept _ values = values

-- the last of the frames that were there was taken off, and the others are left
pub record Pops (was left : List ListedFrame) (f : Frame) : Type 0 where
  pub values : List (Option machine.Value)
  pub off : was ≡ left ++ record { frame = f; values = values } ∷ []

-- the first task was taken off, which was this frame or none
pub record TakesOff (frame : Option Frame) (old new : Frames) : Type 0 where
  pub task : Task
  pub was : old.tasks.items ≡ new.tasks.items ++ task ∷ []
  pub is : frame ≡ option_map (λ s. s.frame) (listed task)

-- there is the same room for tasks, and for the values of each frame
pub record KeepsRoom (old new : Frames) : Type 0 where
  pub tasks : vec_capacity new.tasks ≡ vec_capacity old.tasks
  pub registers : new.registers.room ≡ old.registers.room
  pub args : new.args.room ≡ old.args.room
