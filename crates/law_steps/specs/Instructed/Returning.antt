-- The instruction that ends a program.
use Rattle.std.specs.Prelude.{ℕ, Option}
use Rattle.ui_machine.specs.Definition.Programs as words
use Rattle.law_steps.specs.Instructed.Running.{IsFine}

-- it is taken well, whatever lies below the program
abbrev pub ReturnsAreFine : Type 0
ReturnsAreFine = (from : Option ℕ) → IsFine (words.return from)
