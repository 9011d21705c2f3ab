-- One argument of an emission or a call.
use Rattle.std.specs.Prelude.{ℕ, Option, None, Some, Ok}
use Rattle.ui_machine.specs.Definition.{Definition}
use Rattle.ui_machine.specs.Definition.Kinds.{Kind}
use Rattle.ui_machine.specs.Outcome.{◌>>=◌}
use Rattle.law_typing.specs.Rules.Answers.{Typing}
use Rattle.law_typing.specs.Rules.RegisterKinds.{Kinds}
use Rattle.law_typing.specs.Rules.Typing.{fitting, set_in}

-- an argument is set, and fits its parameter, if there is one
abbrev pub checked : Definition → Kinds → ℕ → Option Kind → Typing Kinds
checked d ks from None = set_in ks from >>= λ k. Ok ks
checked d ks from (Some param) = fitting d ks from param >>= λ k. Ok ks
