-- The instruction that thaws an object.
use Rattle.std.specs.Prelude.{ℕ}
use Rattle.ui_machine.specs.Definition.Programs as words
use Rattle.law_steps.specs.Instructed.Running.{IsFine}

-- it is taken well: what waited in the queue is due, and is paid for by what the queue might cost
abbrev pub ThawsAreFine : Type 0
ThawsAreFine = (object : ℕ) → IsFine (words.thaw object)
