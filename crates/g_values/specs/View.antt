-- Which pure kind and value a kind and a value denote.
use Rattle.std.specs.Prelude.{◌≡◌, pos, Bool, true, false, List, Option, None, Some, option_map, IsSome, ℤ, Result, Ok, Err}
use Rattle.std.specs.declared.alloc.AllocError.{AllocError}
use Rattle.std.specs.Rc.{rc_str_bytes}
use Rattle.ui_machine.specs.Definition.Kinds.{int, uint, int64, uint64}
use Rattle.ui_machine.specs.Definition.Kinds as kinds
use Rattle.ui_machine.specs.Definition.Values as values
use Rattle.ui_machine.specs.Rules.Transform.{wrapped, is_transformable, transformed}
use Rattle.g_values.specs.declared.error.TransformError.{TransformError}
use Rattle.g_values.specs.declared.error.TransformError.TheVariants.{OutOfMemory, Refused}
use Rattle.g_values.specs.declared.error.TransformFault.TheVariants.{NoTransform, NotAMember}
use Rattle.ui_machine.specs.Definition.Types.{GType, enum, flags}
use Rattle.type_tree.specs.Adding.{sort_of}
use Rattle.g_values.specs.declared.kind.Kind.{Kind}
use Rattle.g_values.specs.declared.kind.Kind.TheVariants as of_kind
use Rattle.g_values.specs.declared.value.Value.{Value}
use Rattle.g_values.specs.declared.value.Value.TheVariants as of_value

abbrev pub kind_view : Kind → kinds.Kind
kind_view of_kind.Bool = kinds.bool
kind_view of_kind.Int = kinds.whole int
kind_view of_kind.UInt = kinds.whole uint
kind_view of_kind.Int64 = kinds.whole int64
kind_view of_kind.UInt64 = kinds.whole uint64
kind_view of_kind.Text = kinds.text
kind_view (of_kind.Enum t) = kinds.enum t
kind_view (of_kind.Flags t) = kinds.flags t
kind_view (of_kind.Object t) = kinds.object t

abbrev pub value_view : Value → values.Value
value_view (of_value.Bool b) = values.bool b
value_view (of_value.Int n) = values.whole int n
value_view (of_value.UInt n) = values.whole uint (pos n)
value_view (of_value.Int64 n) = values.whole int64 n
value_view (of_value.UInt64 n) = values.whole uint64 (pos n)
value_view (of_value.Text s) = values.text (option_map rc_str_bytes s)
value_view (of_value.Enum t n) = values.enum t n
value_view (of_value.Flags t bits) = values.flags t bits
value_view (of_value.Object t id) = values.object (option_map (λ o. o.0) id)

-- the kind that a value knows
abbrev pub value_kind : Value → kinds.Kind
value_kind (of_value.Bool b) = kinds.bool
value_kind (of_value.Int n) = kinds.whole int
value_kind (of_value.UInt n) = kinds.whole uint
value_kind (of_value.Int64 n) = kinds.whole int64
value_kind (of_value.UInt64 n) = kinds.whole uint64
value_kind (of_value.Text s) = kinds.text
value_kind (of_value.Enum t n) = kinds.enum t
value_kind (of_value.Flags t bits) = kinds.flags t
value_kind (of_value.Object t id) = kinds.object t

-- an enum's kind names an enum of the tree, and a flags kind a flags type
abbrev pub IsKnown : List GType → Kind → Type 0
IsKnown types of_kind.Bool = Unit {0}
IsKnown types of_kind.Int = Unit {0}
IsKnown types of_kind.UInt = Unit {0}
IsKnown types of_kind.Int64 = Unit {0}
IsKnown types of_kind.UInt64 = Unit {0}
IsKnown types of_kind.Text = Unit {0}
IsKnown types (of_kind.Enum t) = sort_of types t ≡ enum
IsKnown types (of_kind.Flags t) = sort_of types t ≡ flags
IsKnown types (of_kind.Object t) = Unit {0}

-- whether a kind is one of whole numbers
abbrev pub is_whole_kind : kinds.Kind → Bool
is_whole_kind kinds.bool = false
is_whole_kind (kinds.whole k) = true
is_whole_kind kinds.text = false
is_whole_kind (kinds.enum t) = false
is_whole_kind (kinds.flags t) = false
is_whole_kind (kinds.object t) = false

-- what a value becomes, seen as a pure value of the kind, or that it becomes nothing
abbrev pub Becomes : Option Value → kinds.Kind → Option values.Value → Type 0
Becomes None kind answer = answer ≡ None
Becomes (Some v) kind answer = (answer ≡ Some (value_view v)) × (value_kind v ≡ kind)

-- a number becomes one of a kind of whole numbers
abbrev pub BecomesWhole : Option Value → kinds.Kind → ℤ → Type 0
BecomesWhole o kinds.bool n = o ≡ None
BecomesWhole o (kinds.whole k) n = Becomes o (kinds.whole k) (Some (values.whole k (wrapped k n)))
BecomesWhole o kinds.text n = o ≡ None
BecomesWhole o (kinds.enum t) n = o ≡ None
BecomesWhole o (kinds.flags t) n = o ≡ None
BecomesWhole o (kinds.object t) n = o ≡ None

-- The same; without memory it would have become a value.
abbrev pub Yields : Result (Option Value) AllocError → kinds.Kind → Option values.Value → Type 0
Yields (Ok o) kind answer = Becomes o kind answer
Yields (Err e) kind answer = IsSome answer

-- A transformation answers the value of the kind; it is refused where the pair of kinds has no transformation, and else where the value
-- has no result. Without memory it would have been answered.
abbrev pub Transforms : Result Value TransformError → List GType → kinds.Kind → kinds.Kind → values.Value → Type 0
Transforms (Ok w) types from to v = (transformed types from to v ≡ Some (value_view w)) × (value_kind w ≡ to)
Transforms (Err (Refused NoTransform)) types from to v = is_transformable types from to ≡ false
Transforms (Err (Refused NotAMember)) types from to v = (is_transformable types from to ≡ true) × (transformed types from to v ≡ None)
Transforms (Err OutOfMemory) types from to v = IsSome (transformed types from to v)
