-- The instruction that calls a peer.
use Rattle.std.specs.Prelude.{ℕ, List}
use Rattle.ui_machine.specs.Definition.Programs as words
use Rattle.law_steps.specs.Instructed.Running.{IsFine}

-- it is taken well: the object has a peer, and the peer has the method
abbrev pub CallsAreFine : Type 0
CallsAreFine = (to object : ℕ) (name : List ℕ) (args : List ℕ) → IsFine (words.call to object name args)
