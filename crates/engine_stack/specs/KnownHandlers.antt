-- Emissions that go on: the handlers that are connected behind their beginning, and the transfers that they have left.
use Rattle.std.specs.Prelude.{◌≡◌, ℕ, ◌≤◌, All, true, []}
use Rattle.signal_core.specs.Emission.{Walk, is_over}
use Rattle.engine_stack.specs.declared.stacks.Frames.{Frames}
use Rattle.engine_stack.specs.declared.task.Task.{Task}
use Rattle.engine_stack.specs.declared.task.Task.TheVariants as tasks
use Rattle.engine_stack.specs.declared.task.Transfers.{Transfers}
use Rattle.engine_stack.specs.TransferView.{due_now}

-- where an emission has come to its end no transfer is due
abbrev pub EndsWithoutTransfers : Walk → Transfers → Type 0
EndsWithoutTransfers w ts = is_over w.stage ≡ true → due_now ts ≡ []

-- an emission takes no handler with a number above this one, and no transfer at its end; the other tasks take none
abbrev pub TakesKnownHandlers : (last : ℕ) → Task → Type 0
TakesKnownHandlers last (tasks.Emitting f) = (f.cursor.greatest ≤ last) × EndsWithoutTransfers f.cursor f.transfers
TakesKnownHandlers last _ = Unit {0}

-- the same of all tasks of a stack
abbrev pub AllTakeKnownHandlers : (last : ℕ) → Frames → Type 0
AllTakeKnownHandlers last s = All (TakesKnownHandlers last) s.tasks.items
