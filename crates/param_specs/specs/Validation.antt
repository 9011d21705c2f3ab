-- What validation is asked for, and what it gives.
use Rattle.std.specs.Prelude.{◌≡◌, ◌≤ℤ◌, ℕ, false, List, Option, None, Some}
use Rattle.ui_machine.specs.Definition.Kinds.{Whole, int, uint, int64, uint64}
use Rattle.ui_machine.specs.Definition.Kinds as kinds
use Rattle.ui_machine.specs.Definition.Types.{GType, enum, flags}
use Rattle.ui_machine.specs.Rules.Transform.{least, greatest, same_value}
use Rattle.type_tree.specs.Adding.{sort_of}
use Rattle.ui_machine.specs.Definition.Values as values
use Rattle.g_values.specs.View.{value_kind, value_view}
use Rattle.g_values.specs.declared.value.Value.{Value}
use Rattle.g_values.specs.declared.value.Value.TheVariants.{Bool, Int, UInt, Int64, UInt64, Text, Enum, Flags, Object}
use Rattle.param_specs.specs.declared.spec.Spec.{Spec}

-- the ends of the range are numbers of the kind
pub record IsWithin (k : Whole) (s : Spec) : Type 0 where
  pub min_low : least k ≤ℤ s.min
  pub min_high : s.min ≤ℤ greatest k
  pub max_low : least k ≤ℤ s.max
  pub max_high : s.max ≤ℤ greatest k

-- the value is of the spec's kind: a number's range lies within its kind, and an enum's default is of the enum
abbrev pub Takes : List GType → Spec → Value → Type 0
Takes types s (Bool b) = Unit {0}
Takes types s (Int n) = IsWithin int s
Takes types s (UInt n) = IsWithin uint s
Takes types s (Int64 n) = IsWithin int64 s
Takes types s (UInt64 n) = IsWithin uint64 s
Takes types s (Text t) = Unit {0}
Takes types s (Enum t n) = (sort_of types t ≡ enum) × (value_kind s.default ≡ kinds.enum t)
Takes types s (Flags t bits) = sort_of types t ≡ flags
Takes types s (Object t id) = Unit {0}

-- an object's value names the class that the object has
abbrev pub KnowsClass : (ℕ → Option ℕ) → Value → Type 0
KnowsClass living_class (Bool b) = Unit {0}
KnowsClass living_class (Int n) = Unit {0}
KnowsClass living_class (UInt n) = Unit {0}
KnowsClass living_class (Int64 n) = Unit {0}
KnowsClass living_class (UInt64 n) = Unit {0}
KnowsClass living_class (Text t) = Unit {0}
KnowsClass living_class (Enum t n) = Unit {0}
KnowsClass living_class (Flags t bits) = Unit {0}
KnowsClass living_class (Object t None) = Unit {0}
KnowsClass living_class (Object t (Some id)) = living_class id.0 ≡ Some t

-- what takes a value's place, where validation gives another one
abbrev pub Corrects : Option Value → values.Value → values.Value → Type 0
Corrects None valid v = valid ≡ v
Corrects (Some w) valid v = (value_view w ≡ valid) × (same_value valid v ≡ false)
