-- The task that sets a binding free.
use Rattle.std.specs.Prelude.{ℕ}
use Rattle.ui_machine.specs.State.Tasks.{Unsetting}
use Rattle.law_steps.specs.Tasked.First.{IsFine}

-- it is taken well
abbrev pub FreeingsAreFine : Type 0
FreeingsAreFine = (number : ℕ) → IsFine (Unsetting number)
