-- Kinds of values: what fits them, their zero values, and how a value of one becomes a value of another
-- (GObject manual, GValue: value transformation).
use Rattle.std.specs.Prelude.{ℕ, ◌^◌, ℤ, pos, negsuc, int_lt, unsigned_abs, bit_and, bit_or, Bool, true, false, cond, not, ◌&&◌, nat_eq, nat_lt, List, [], ◌∷◌, codes, Option, None, Some}
use Rattle.std.specs.Fmt.{signed_decimal}
use Rattle.std.specs.List.{list_any}
use Rattle.std.specs.Ordering.{int_eq}
use Rattle.std.specs.Int.{cast_signed, int_rem_euclid, w32, w64}
use Rattle.ui_machine.specs.Definition.Kinds.{Whole, int, uint, int64, uint64, Kind}
use Rattle.ui_machine.specs.Definition.Kinds as kinds
use Rattle.ui_machine.specs.Definition.Values.{Value}
use Rattle.ui_machine.specs.Definition.Values as values
use Rattle.ui_machine.specs.Definition.Types.{GType, Member}
use Rattle.ui_machine.specs.Definition.Names.{same_name}
use Rattle.ui_machine.specs.Output.Text.{members_of}
use Rattle.ui_machine.specs.Rules.Ancestry.{is_a}

-- ** whole numbers

-- the least number of a kind
abbrev pub least : Whole → ℤ
least int = negsuc 2147483647
least uint = pos 0
least int64 = negsuc 9223372036854775807
least uint64 = pos 0

-- the greatest number of a kind
abbrev pub greatest : Whole → ℤ
greatest int = pos 2147483647
greatest uint = pos 4294967295
greatest int64 = pos 9223372036854775807
greatest uint64 = pos 18446744073709551615

-- whether a number is between two others, both included
abbrev pub is_between : ℤ → ℤ → ℤ → Bool
is_between low high n = not (int_lt n low) && not (int_lt high n)

-- the number of a kind that has the same low bits in two's complement
abbrev pub wrapped : Whole → ℤ → ℤ
wrapped int n = cast_signed w32 (unsigned_abs (int_rem_euclid n (pos (2 ^ 32))))
wrapped uint n = int_rem_euclid n (pos (2 ^ 32))
wrapped int64 n = cast_signed w64 (unsigned_abs (int_rem_euclid n (pos (2 ^ 64))))
wrapped uint64 n = int_rem_euclid n (pos (2 ^ 64))

-- ** members

-- whether a member has this number
abbrev pub has_number : List Member → ℤ → Bool
has_number members n = list_any (λ m. int_eq m.number n) members

-- all bits of all members
abbrev pub known_bits : List Member → ℕ
known_bits [] = 0
known_bits (m ∷ ms) = bit_or (unsigned_abs m.number) (known_bits ms)

-- whether a number is made of known bits
abbrev pub is_known : List Member → ℤ → Bool
is_known members (pos bits) = nat_lt bits (2 ^ 32) && nat_eq (bit_and bits (known_bits members)) bits
is_known members (negsuc n) = false

-- ** kinds

abbrev pub same_whole : Whole → Whole → Bool
same_whole int int = true
same_whole uint uint = true
same_whole int64 int64 = true
same_whole uint64 uint64 = true
same_whole _ _ = false

abbrev pub same_kind : Kind → Kind → Bool
same_kind kinds.bool kinds.bool = true
same_kind (kinds.whole k) (kinds.whole l) = same_whole k l
same_kind kinds.text kinds.text = true
same_kind (kinds.enum t) (kinds.enum u) = nat_eq t u
same_kind (kinds.flags t) (kinds.flags u) = nat_eq t u
same_kind (kinds.object t) (kinds.object u) = nat_eq t u
same_kind _ _ = false

-- the number of the first member
abbrev pub first_number : List Member → ℤ
first_number [] = pos 0
first_number (m ∷ ms) = m.number

-- FALSE, 0, null, the first member, no bits, null
abbrev pub zero_value : List GType → Kind → Value
zero_value types kinds.bool = values.bool false
zero_value types (kinds.whole k) = values.whole k (pos 0)
zero_value types kinds.text = values.text None
zero_value types (kinds.enum t) = values.enum t (first_number (members_of types t))
zero_value types (kinds.flags t) = values.flags t 0
zero_value types (kinds.object t) = values.object None

-- whether a class, if there is one, is the type
abbrev pub is_one : List GType → ℕ → Option ℕ → Bool
is_one types t None = false
is_one types t (Some c) = is_a types c t

-- whether a value is one of the kind, where living_class gives the class of a living identity
abbrev pub kind_fits : (ℕ → Option ℕ) → List GType → Value → Kind → Bool
kind_fits living_class types (values.bool b) kinds.bool = true
kind_fits living_class types (values.whole k n) (kinds.whole l) = same_whole k l && is_between (least l) (greatest l) n
kind_fits living_class types (values.text s) kinds.text = true
kind_fits living_class types (values.enum t n) (kinds.enum u) = nat_eq t u && has_number (members_of types u) n
kind_fits living_class types (values.flags t bits) (kinds.flags u) = nat_eq t u && nat_lt bits (2 ^ 32)
kind_fits living_class types (values.object None) (kinds.object t) = true
kind_fits living_class types (values.object (Some id)) (kinds.object t) = is_one types t (living_class id)
kind_fits living_class types _ _ = false

-- ** transformations

-- whether a pair of kinds has a transformation
abbrev pub is_transformable : List GType → Kind → Kind → Bool
is_transformable types kinds.bool kinds.bool = true
is_transformable types kinds.bool (kinds.whole k) = true
is_transformable types kinds.bool kinds.text = true
is_transformable types (kinds.whole k) kinds.bool = true
is_transformable types (kinds.whole k) (kinds.whole l) = true
is_transformable types (kinds.whole k) kinds.text = true
is_transformable types (kinds.whole k) (kinds.enum t) = true
is_transformable types (kinds.whole k) (kinds.flags t) = true
is_transformable types kinds.text kinds.text = true
is_transformable types (kinds.enum t) (kinds.whole k) = true
is_transformable types (kinds.enum t) (kinds.enum u) = nat_eq t u
is_transformable types (kinds.flags t) (kinds.whole k) = true
is_transformable types (kinds.flags t) (kinds.flags u) = nat_eq t u
is_transformable types (kinds.object t) (kinds.object u) = is_a types t u
is_transformable types _ _ = false

-- 0 or 1
abbrev pub number_of_bool : Bool → ℤ
number_of_bool false = pos 0
number_of_bool true = pos 1

abbrev pub text_of_bool : Bool → List ℕ
text_of_bool false = codes "FALSE"
text_of_bool true = codes "TRUE"

-- the value if the test holds
abbrev pub if_so : Bool → Value → Option Value
if_so false v = None
if_so true v = Some v

-- what a value becomes in a kind that its own kind is transformable to
abbrev pub converted : List GType → Kind → Value → Option Value
converted types kinds.bool (values.bool b) = Some (values.bool b)
converted types (kinds.whole k) (values.bool b) = Some (values.whole k (number_of_bool b))
converted types kinds.text (values.bool b) = Some (values.text (Some (text_of_bool b)))
converted types kinds.bool (values.whole l n) = Some (values.bool (not (int_eq n (pos 0))))
converted types (kinds.whole k) (values.whole l n) = Some (values.whole k (wrapped k n))
converted types kinds.text (values.whole l n) = Some (values.text (Some (signed_decimal n)))
converted types (kinds.enum t) (values.whole l n) = if_so (has_number (members_of types t) n) (values.enum t n)
converted types (kinds.flags t) (values.whole l n) = if_so (is_known (members_of types t) n) (values.flags t (unsigned_abs n))
converted types kinds.text (values.text s) = Some (values.text s)
converted types (kinds.whole k) (values.enum t n) = Some (values.whole k (wrapped k n))
converted types (kinds.enum t) (values.enum u n) = Some (values.enum u n)
converted types (kinds.whole k) (values.flags t bits) = Some (values.whole k (wrapped k (pos bits)))
converted types (kinds.flags t) (values.flags u bits) = Some (values.flags u bits)
converted types (kinds.object t) (values.object o) = Some (values.object o)
converted types _ _ = None

-- what a value of one kind becomes in another, if the pair has a transformation and the value a result
abbrev pub transformed : List GType → Kind → Kind → Value → Option Value
transformed types from to v = cond (is_transformable types from to) (converted types to v) None

-- ** equality

abbrev pub same_bool : Bool → Bool → Bool
same_bool false b = not b
same_bool true b = b

abbrev pub same_text : Option (List ℕ) → Option (List ℕ) → Bool
same_text None None = true
same_text (Some s) (Some t) = same_name s t
same_text _ _ = false

abbrev pub same_object : Option ℕ → Option ℕ → Bool
same_object None None = true
same_object (Some a) (Some b) = nat_eq a b
same_object _ _ = false

-- whether two values are one
abbrev pub same_value : Value → Value → Bool
same_value (values.bool a) (values.bool b) = same_bool a b
same_value (values.whole k m) (values.whole l n) = same_whole k l && int_eq m n
same_value (values.text s) (values.text t) = same_text s t
same_value (values.enum t m) (values.enum u n) = nat_eq t u && int_eq m n
same_value (values.flags t a) (values.flags u b) = nat_eq t u && nat_eq a b
same_value (values.object a) (values.object b) = same_object a b
same_value _ _ = false
