-- The instruction that emits a signal.
use Rattle.std.specs.Prelude.{ℕ, List, Option}
use Rattle.ui_machine.specs.Definition.Programs as words
use Rattle.law_steps.specs.Instructed.Running.{IsFine}

-- it is taken well, whether or not the program waits for a result
abbrev pub EmitsAreFine : Type 0
EmitsAreFine = (into : Option ℕ) (object : ℕ) (name : List ℕ) (detail : Option (List ℕ)) (args : List ℕ) → IsFine (words.emit into object name detail args)
