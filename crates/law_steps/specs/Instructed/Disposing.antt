-- The instruction that disposes an object.
use Rattle.std.specs.Prelude.{ℕ}
use Rattle.ui_machine.specs.Definition.Programs as words
use Rattle.law_steps.specs.Instructed.Running.{IsFine}

-- it is taken well
abbrev pub DisposesAreFine : Type 0
DisposesAreFine = (object : ℕ) → IsFine (words.dispose object)
