-- The instruction that makes an object of a prototype.
use Rattle.std.specs.Prelude.{ℕ, List}
use Rattle.ui_machine.specs.Definition.Programs as words
use Rattle.law_steps.specs.Instructed.Running.{IsFine}

-- it is taken well: its construction is due, or past the limit its register is null
abbrev pub MakesAreFine : Type 0
MakesAreFine = (to : ℕ) (id : List ℕ) → IsFine (words.new to id)
