-- Methods of peers, by the classes of their objects.
use Rattle.std.specs.Prelude.{ℕ, List}
use Rattle.ui_machine.specs.Definition.{Definition}
use Rattle.ui_machine.specs.Definition.Signals.{Method}
use Rattle.ui_machine.specs.Outcome.{◌>>=◌}
use Rattle.law_typing.specs.Rules.Answers.{Typing}
use Rattle.law_typing.specs.Rules.Typing.{method_named, methods_for}

-- the method of a name that objects of a class are called with
abbrev pub method_called : Definition → ℕ → List ℕ → Typing Method
method_called d class name = methods_for d class >>= λ methods. method_named methods name
