-- The construction that is the first task.
use Rattle.std.specs.Prelude.{◌≡◌, ℕ, ◌-◌, Bool, false, List, [], ◌∷◌, drop, length, IsSome, Option, None, Some, option_and_then, slice_get}
use Rattle.ui_machine.specs.Definition as machine
use Rattle.ui_machine.specs.State.Handlers.{Handler}
use Rattle.ui_machine.specs.State.Tasks as config
use Rattle.engine_stack.specs.KnownHandlers.{AllTakeKnownHandlers}
use Rattle.engine_stack.specs.TaskView.{tasks_of}
use Rattle.engine_stack.specs.declared.construction_frames.ConstructionFrame.{ConstructionFrame}
use Rattle.engine_stack.specs.declared.stacks.Frames.{Frames}
use Rattle.engine_stack.specs.declared.task.Task.{Task}
use Rattle.engine_stack.specs.declared.task.Task.TheVariants as tasks

-- a construction that goes on: its object, the steps that it has left, and whether the builder holds the object at its end
pub record Constructed : Type 0 where
  pub object : ℕ
  pub steps : List config.ConstructStep
  pub held : Bool

-- the construction of a frame
abbrev pub constructed_of : ConstructionFrame → Constructed
constructed_of f = record { object = f.object.0; steps = f.steps; held = f.held }

-- the machine's task
abbrev pub constructing_task : Constructed → config.Task
constructing_task c = config.Constructing c.object c.steps c.held

-- the construction of a task that is one
abbrev pub construction_in : Task → Option ConstructionFrame
construction_in (tasks.Constructing frame) = Some frame
construction_in _ = None

-- the construction that is the first of some tasks, the first of which is the last of the list
abbrev pub first_construction : List Task → Option ConstructionFrame
first_construction items = option_and_then construction_in (slice_get items (length items - 1))

-- the construction of a frame that is there, or one that has no step left
abbrev pub constructed_in : Option ConstructionFrame → Constructed
constructed_in None = record { object = 0; steps = []; held = false }
constructed_in (Some f) = constructed_of f

-- the construction of the first task of a stack, or one that has no step left where that is no construction
unfoldable pub stack_construction : Frames → Constructed
stack_construction s = constructed_in (first_construction s.tasks.items)

-- The first task is a construction, and the tasks below it are those that were below the first one. All take known handlers as before.
pub record IsReconstructed (old new : Frames) : Type 0 where
  pub first : IsSome (first_construction new.tasks.items)
  pub tasks : (d : machine.Definition) (hs : List Handler) → tasks_of d hs new ≡ constructing_task (stack_construction new) ∷ drop 1 (tasks_of d hs old)
  pub begun : (last : ℕ) → AllTakeKnownHandlers last old → AllTakeKnownHandlers last new
