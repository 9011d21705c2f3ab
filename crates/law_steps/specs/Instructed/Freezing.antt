-- The instruction that freezes an object.
use Rattle.std.specs.Prelude.{ℕ}
use Rattle.ui_machine.specs.Definition.Programs as words
use Rattle.law_steps.specs.Instructed.Running.{IsFine}

-- it is taken well
abbrev pub FreezesAreFine : Type 0
FreezesAreFine = (object : ℕ) → IsFine (words.freeze object)
