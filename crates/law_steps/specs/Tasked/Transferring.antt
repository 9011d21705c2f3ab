-- The task that carries a value over a binding.
use Rattle.std.specs.Prelude.{ℕ, Bool}
use Rattle.ui_machine.specs.State.Tasks.{Transferring}
use Rattle.law_steps.specs.Tasked.First.{IsFine}

-- it is taken well: the value of one end is due at the other, and the binding sets; or it has ended, or there is no such value
abbrev pub DueTransfersAreFine : Type 0
DueTransfersAreFine = (number : ℕ) (back : Bool) → IsFine (Transferring number back)
