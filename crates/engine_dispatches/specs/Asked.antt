-- By which type an object in a reply is known (GObject manual, Parameters and Values: a value has the type that it was asked for by).
use Rattle.std.specs.Prelude.{◌≡◌, ℕ, ⊤, Option, None, Some}
use Rattle.ui_machine.specs.Definition.Kinds.{Kind}
use Rattle.ui_machine.specs.Definition.Kinds as kinds
use Rattle.g_values.specs.View.{value_kind}
use Rattle.g_values.specs.declared.value.Value.{Value}

-- the value is asked for by this kind: if an object of a type is asked for, and the value is an object, it is known by that type
abbrev pub IsKnownBy : Option Kind → Value → Type 0
IsKnownBy asked v = (type known : ℕ) → asked ≡ Some (kinds.object type) → value_kind v ≡ kinds.object known → known ≡ type

-- the same of a value that may not be there
abbrev pub IsAnswerTo : Option Kind → Option Value → Type 0
IsAnswerTo asked None = ⊤
IsAnswerTo asked (Some v) = IsKnownBy asked v
