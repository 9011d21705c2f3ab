-- Parts of paths.
use Rattle.std.specs.Prelude.{ℕ, List, length, take}
use Rattle.std.specs.List.{filter}
use Rattle.ui_machine.specs.Definition.Types.{GType}
use Rattle.law_typing.specs.Verdict.FaultText.{is_class}

-- how many classes come before a type
abbrev pub classes_before : List GType → ℕ → ℕ
classes_before types class = length (filter is_class (take class types))
