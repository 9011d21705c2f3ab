-- The transfers that an emission has still to make.
use Rattle.std.specs.Prelude.{List, [], map}
use Rattle.ui_machine.specs.State.Tasks.{PlanEntry}
use Rattle.bindings.specs.Due.{entry_of}
use Rattle.bindings.specs.declared.due.DueTransfer.{DueTransfer}
use Rattle.engine_stack.specs.declared.task.Transfers.{Transfers}
use Rattle.engine_stack.specs.declared.task.Transfers.TheVariants as at

-- those that come before all turns that are left
abbrev pub due_now : Transfers → List DueTransfer
due_now (at.Ahead due) = []
due_now (at.Due due) = due

-- those that come as the bindings have their turn
abbrev pub due_later : Transfers → List DueTransfer
due_later (at.Ahead due) = due
due_later (at.Due due) = []

-- the machine's entries for them
abbrev pub entries_due_of : List DueTransfer → List PlanEntry
entries_due_of due = map entry_of due
