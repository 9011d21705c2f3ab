-- The instruction that connects a handler.
use Rattle.std.specs.Prelude.{ℕ}
use Rattle.ui_machine.specs.Definition.Programs.{Connect}
use Rattle.ui_machine.specs.Definition.Programs as words
use Rattle.law_steps.specs.Instructed.Running.{IsFine}

-- it is taken well, also where the object is disposed or no handler finds room
abbrev pub ConnectsAreFine : Type 0
ConnectsAreFine = (to object : ℕ) (c : Connect) → IsFine (words.connect to object c)
