-- Validation: how a value is brought into its property's spec (GObject manual, g_param_value_validate).
use Rattle.std.specs.Prelude.{ℕ, ℤ, int_lt, bit_and, Bool, cond, ◌&&◌, List, Option, None}
use Rattle.ui_machine.specs.Definition.Values.{Value}
use Rattle.ui_machine.specs.Definition.Values as values
use Rattle.ui_machine.specs.Definition.Types.{GType}
use Rattle.ui_machine.specs.Definition.Properties.{Spec}
use Rattle.ui_machine.specs.Output.Text.{members_of}
use Rattle.ui_machine.specs.Rules.Transform.{has_number, known_bits, kind_fits, same_value}

-- the number nearest to n between two others
abbrev pub limited : ℤ → ℤ → ℤ → ℤ
limited low high n = cond (int_lt n low) low (cond (int_lt high n) high n)

-- A number goes to the nearer end of the range, one that is no member becomes the default, unknown bits are cleared, and an object of
-- another type becomes null.
abbrev pub clamp : (ℕ → Option ℕ) → List GType → Spec → Value → Value
clamp living_class types spec (values.bool b) = values.bool b
clamp living_class types spec (values.whole k n) = values.whole k (limited spec.low spec.high n)
clamp living_class types spec (values.text s) = values.text s
clamp living_class types spec (values.enum t n) = cond (has_number (members_of types t) n) (values.enum t n) spec.default
clamp living_class types spec (values.flags t bits) = values.flags t (bit_and bits (known_bits (members_of types t)))
clamp living_class types spec (values.object o) =
    cond (kind_fits living_class types (values.object o) spec.kind) (values.object o) (values.object None)

-- whether a value is valid for the property
abbrev pub is_valid : (ℕ → Option ℕ) → List GType → Spec → Value → Bool
is_valid living_class types spec v =
    kind_fits living_class types v spec.kind && same_value (clamp living_class types spec v) v
