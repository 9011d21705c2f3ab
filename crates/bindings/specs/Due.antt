-- Which transfers of a notification are made, of those that are due.
use Rattle.std.specs.Prelude.{ℕ, Bool, false, not, cond, List, [], ◌∷◌, Option, None, Some}
use Rattle.ui_machine.specs.State.Bindings.{Binding, binding_of, goes_back}
use Rattle.ui_machine.specs.State.Tasks.{PlanEntry, transfer}
use Rattle.bindings.specs.declared.due.DueTransfer.{DueTransfer}

-- the machine's entry for one that is due
abbrev pub entry_of : DueTransfer → PlanEntry
entry_of due = transfer due.number due.back

-- what a binding has to do after a notification of one of its ends
abbrev pub due_of : (object slot : ℕ) → Binding → DueTransfer
due_of object slot b = record { number = b.number; back = goes_back object slot b }

-- whether a binding makes a transfer that is due: it has not ended, and does not set
abbrev pub is_free : Option Binding → Bool
is_free None = false
is_free (Some b) = not b.busy

-- those from the first one on that is made
abbrev pub from_ready : List Binding → List DueTransfer → List DueTransfer
from_ready bindings [] = []
from_ready bindings (due ∷ dues) = cond (is_free (binding_of due.number bindings)) (due ∷ dues) (from_ready bindings dues)
