-- The task that makes the notifications that are left of a thaw.
use Rattle.std.specs.Prelude.{ℕ, List}
use Rattle.ui_machine.specs.State.Tasks.{Thawing}
use Rattle.law_steps.specs.Tasked.First.{IsFine}

-- the next of them is due; or none is left
abbrev pub DueThawsAreFine : Type 0
DueThawsAreFine = (id : ℕ) (slots : List ℕ) → IsFine (Thawing id slots)
