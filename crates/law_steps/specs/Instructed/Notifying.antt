-- The instruction that raises a property's notification.
use Rattle.std.specs.Prelude.{ℕ, List}
use Rattle.ui_machine.specs.Definition.Programs as words
use Rattle.law_steps.specs.Instructed.Running.{IsFine}

-- it is taken well, on a frozen object as on one that is not
abbrev pub NotifiesAreFine : Type 0
NotifiesAreFine = (object : ℕ) (name : List ℕ) → IsFine (words.notify object name)
