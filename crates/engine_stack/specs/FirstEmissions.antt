-- The emission that is the first task.
use Rattle.std.specs.Prelude.{◌≡◌, ℕ, ◌-◌, ◌≤◌, Bool, false, List, [], ◌∷◌, ◌++◌, drop, length, IsSome, Option, None, Some, option_and_then, slice_get}
use Rattle.ui_machine.specs.Definition as machine
use Rattle.ui_machine.specs.State.Handlers.{Handler}
use Rattle.ui_machine.specs.State.Tasks as config
use Rattle.g_values.specs.declared.value.Value.{Value}
use Rattle.signal_core.specs.Emission.{Walk, stopped}
use Rattle.signal_core.specs.declared.stage.Stage.TheVariants as stages
use Rattle.engine_stack.specs.KnownHandlers.{AllTakeKnownHandlers, EndsWithoutTransfers}
use Rattle.engine_stack.specs.TaskView.{emission_of, entries_to_come, tasks_of}
use Rattle.engine_stack.specs.declared.emission_frames.EmissionFrame.{EmissionFrame}
use Rattle.engine_stack.specs.declared.stacks.Frames.{Frames}
use Rattle.engine_stack.specs.declared.task.Task.{Task}
use Rattle.engine_stack.specs.declared.task.Task.TheVariants as tasks
pub use Rattle.engine_stack.specs.TaskFrames.{emission_in}
use Rattle.engine_stack.specs.declared.task.Transfers.{Transfers}
use Rattle.engine_stack.specs.declared.task.Transfers.TheVariants as at

-- an emission that goes on: how far it has come, what it was given, whether by an event, and the transfers that it has left
pub record Emitted : Type 0 where
  pub walk : Walk
  pub args : List Value
  pub by_event : Bool
  pub transfers : Transfers

-- the emission of a frame
abbrev pub emitted_of : EmissionFrame → Emitted
emitted_of f = record { walk = f.cursor; args = f.args.items; by_event = f.by_event; transfers = f.transfers }

-- the machine's emission
abbrev pub emission_view : Emitted → config.Emission
emission_view e = emission_of e.walk e.args e.by_event

-- the entries that it has left, where these handlers are connected
abbrev pub entries_left : Emitted → List Handler → List config.PlanEntry
entries_left e hs = entries_to_come e.walk hs e.transfers

-- the machine's task
abbrev pub emitting : Emitted → List Handler → config.Task
emitting e hs = config.Emitting (emission_view e) (entries_left e hs)

-- the emission that is the first of some tasks, the first of which is the last of the list
abbrev pub first_emission : List Task → Option EmissionFrame
first_emission items = option_and_then emission_in (slice_get items (length items - 1))

-- an emission that is at its end and was given nothing
abbrev pub ended : Emitted
ended = record {
  walk = record { object = 0; signal = 0; detail = None; flags = 0; accumulator = None; class_program = None; greatest = 0; stage = stages.Over; value = None };
  args = [];
  by_event = false;
  transfers = at.Due [];
}

-- the emission of a frame that is there, or one that is at its end
abbrev pub emitted_in : Option EmissionFrame → Emitted
emitted_in None = ended
emitted_in (Some f) = emitted_of f

-- the emission of the first task of a stack, or one that is at its end where that is no emission
unfoldable pub stack_emission : Frames → Emitted
stack_emission s = emitted_in (first_emission s.tasks.items)

-- an emission takes no handler with a number above this one, and no transfer at its end
abbrev pub EmitsKnown : (last : ℕ) → Emitted → Type 0
EmitsKnown last e = (e.walk.greatest ≤ last) × EndsWithoutTransfers e.walk e.transfers

-- The first task is an emission, and the tasks below it are those that were below the first one. If they and it take known handlers, all do.
pub record IsReemitted (old new : Frames) : Type 0 where
  pub first : IsSome (first_emission new.tasks.items)
  pub tasks : (d : machine.Definition) (hs : List Handler) → tasks_of d hs new ≡ emitting (stack_emission new) hs ∷ drop 1 (tasks_of d hs old)
  pub begun : (last : ℕ) → EmitsKnown last (stack_emission new) → AllTakeKnownHandlers last old → AllTakeKnownHandlers last new

-- ** an emission that is stopped below the first task

-- an emission of which only the cleanup stage is left, or any other task as it is
abbrev pub stop_in : Task → Task
stop_in (tasks.Emitting f) = tasks.Emitting (record f { cursor = stopped f.cursor; transfers = at.Due [] })
stop_in task = task

-- a list with its last changed
abbrev pub with_last : {A : Type 0} → (A → A) → List A → List A
with_last f [] = []
with_last f (x ∷ []) = f x ∷ []
with_last f (x ∷ y ∷ ys) = x ∷ with_last f (y ∷ ys)

-- the task below the first one is stopped, if it is an emission
pub record StopsBelow (old new : Frames) : Type 0 where
  pub below : List Task
  pub first : Task
  pub was : old.tasks.items ≡ below ++ first ∷ []
  pub now : new.tasks.items ≡ with_last stop_in below ++ first ∷ []
