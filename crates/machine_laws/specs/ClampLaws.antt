-- Laws of validation.
use Rattle.std.specs.Prelude.{◌≡◌, ℕ, ◌^◌, ◌<◌, int_lt, true, false, List, Option, None}
use Rattle.ui_machine.specs.Definition.Kinds.{Kind}
use Rattle.ui_machine.specs.Definition.Kinds as kinds
use Rattle.ui_machine.specs.Definition.Values.{Value}
use Rattle.ui_machine.specs.Definition.Values as values
use Rattle.ui_machine.specs.Definition.Types.{GType}
use Rattle.ui_machine.specs.Definition.Properties.{Spec}
use Rattle.ui_machine.specs.Rules.Transform.{least, greatest, kind_fits}
use Rattle.ui_machine.specs.Rules.Validation.{clamp, is_valid}
use Rattle.ui_machine.specs.Rules.Sets.{has_kind}

-- what a spec says fits its kind: a range of numbers that the kind has, and a default that is a member
abbrev pub IsSound : List GType → Spec → Kind → Type 0
IsSound types s kinds.bool = Unit {0}
IsSound types s (kinds.whole k) = (int_lt s.high s.low ≡ false) × (int_lt s.low (least k) ≡ false) × (int_lt (greatest k) s.high ≡ false)
IsSound types s kinds.text = Unit {0}
IsSound types s (kinds.enum t) = kind_fits (λ id. None) types s.default (kinds.enum t) ≡ true
IsSound types s (kinds.flags t) = Unit {0}
IsSound types s (kinds.object t) = Unit {0}

-- flags have 32 bits
abbrev pub HasFewBits : Value → Type 0
HasFewBits (values.flags t bits) = bits < 2 ^ 32
HasFewBits _ = Unit {0}

-- a validated value is valid
abbrev pub ClampsToValid : Type 0
ClampsToValid =
    (living_class : ℕ → Option ℕ) (types : List GType) (s : Spec) (v : Value) →
    IsSound types s s.kind → has_kind v s.kind ≡ true → HasFewBits v →
    is_valid living_class types s (clamp living_class types s v) ≡ true

-- and validation leaves it as it is
abbrev pub ClampsOnce : Type 0
ClampsOnce =
    (living_class : ℕ → Option ℕ) (types : List GType) (s : Spec) (v : Value) → IsSound types s s.kind → has_kind v s.kind ≡ true →
    clamp living_class types s (clamp living_class types s v) ≡ clamp living_class types s v
