-- Types, transformations and validation at worked values: each equation holds by computing (GObject manual, g_value_transform).
use Rattle.std.specs.Fmt.{digits}
use Rattle.std.specs.Prelude.{List, None, Option, Some, [], codes, false, negsuc, pos, refl, true, ℕ, ℤ, ◌++◌, ◌^◌, ◌∷◌, ◌≡◌}
use Rattle.ui_machine.specs.Definition.Kinds.{int, int64, uint, uint64}
use Rattle.ui_machine.specs.Definition.Kinds as kinds
use Rattle.ui_machine.specs.Definition.Properties.{Spec}
use Rattle.ui_machine.specs.Definition.Types.{GType, Member, Sort, enum, flags, interface, plain_class, predeclared}
use Rattle.ui_machine.specs.Definition.Values as values
use Rattle.ui_machine.specs.Rules.Ancestry.{depth, is_a}
use Rattle.ui_machine.specs.Rules.Transform.{is_transformable, kind_fits, transformed, wrapped, zero_value}
use Rattle.ui_machine.specs.Rules.Validation.{clamp, is_valid}

abbrev member : List ℕ → List ℕ → ℤ → Member
member name nick number = record { name = name; nick = nick; number = number }

abbrev sorted : List ℕ → Sort → List ℕ → List Member → GType
sorted name sort required members =
    record { name = name; sort = sort; parent = None; is_abstract = false; is_final = false; interfaces = required; members = members }

abbrev mode : GType
mode = sorted (codes "Mode") enum [] (member (codes "OFF") (codes "off") (pos 0) ∷ member (codes "ON") (codes "on") (pos 1) ∷ [])

abbrev mark : GType
mark = sorted (codes "Mark") flags [] (member (codes "A") (codes "a") (pos 1) ∷ member (codes "B") (codes "b") (pos 2) ∷ [])

abbrev playable : GType
playable = sorted (codes "Playable") interface (0 ∷ []) []

-- an enum, flags, an interface, a class that implements it, and a child of that class
abbrev examples : List GType
examples =
    predeclared ++ mode ∷ mark ∷ playable ∷ plain_class (codes "Player") (Some 1) (4 ∷ []) ∷ plain_class (codes "Fancy") (Some 5) [] ∷ []

-- ** what is what

is_a-self : is_a examples 6 6 ≡ true
is_a-self = refl

is_a-ancestor : is_a examples 6 0 ≡ true
is_a-ancestor = refl

is_a-child : is_a examples 0 6 ≡ false
is_a-child = refl

is_a-inherited_interface : is_a examples 6 4 ≡ true
is_a-inherited_interface = refl

is_a-required : is_a examples 4 0 ≡ false
is_a-required = refl

depth-root : depth examples 0 ≡ 1
depth-root = refl

depth-fancy : depth examples 6 ≡ 4
depth-fancy = refl

-- ** transformations

wrapped-minus_one : wrapped uint64 (negsuc 0) ≡ pos 18446744073709551615
wrapped-minus_one = refl

wrapped-half : wrapped int (pos 2147483648) ≡ negsuc 2147483647
wrapped-half = refl

wrapped-whole : wrapped int (pos 4294967296) ≡ pos 0
wrapped-whole = refl

wrapped-half64 : wrapped int64 (pos (2 ^ 63)) ≡ negsuc 9223372036854775807
wrapped-half64 = refl

wrapped-low_bits : wrapped uint (negsuc 4294967296) ≡ pos 4294967295
wrapped-low_bits = refl

int_to_uint64 :
    transformed examples (kinds.whole int) (kinds.whole uint64) (values.whole int (negsuc 0))
    ≡ Some (values.whole uint64 (pos 18446744073709551615))
int_to_uint64 = refl

int64_to_int :
    transformed examples (kinds.whole int64) (kinds.whole int) (values.whole int64 (pos 4294967296))
    ≡ Some (values.whole int (pos 0))
int64_to_int = refl

int64_to_bool : transformed examples (kinds.whole int64) kinds.bool (values.whole int64 (pos 4294967296)) ≡ Some (values.bool true)
int64_to_bool = refl

int_to_text : transformed examples (kinds.whole int) kinds.text (values.whole int (negsuc 41)) ≡ Some (values.text (Some (codes "-42")))
unfolding digits
int_to_text = refl

text_to_int : is_transformable examples kinds.text (kinds.whole int) ≡ false
text_to_int = refl

no_member : transformed examples (kinds.whole int) (kinds.enum 2) (values.whole int (pos 5)) ≡ None
no_member = refl

a_member : transformed examples (kinds.whole int) (kinds.enum 2) (values.whole int (pos 1)) ≡ Some (values.enum 2 (pos 1))
a_member = refl

unknown_bits : transformed examples (kinds.whole uint) (kinds.flags 3) (values.whole uint (pos 4)) ≡ None
unknown_bits = refl

all_bits : transformed examples (kinds.whole uint) (kinds.flags 3) (values.whole uint (pos 3)) ≡ Some (values.flags 3 3)
all_bits = refl

zero_enum : zero_value examples (kinds.enum 2) ≡ values.enum 2 (pos 0)
zero_enum = refl

-- ** validation

abbrev one_player : ℕ → Option ℕ
one_player n = Some 6

abbrev marks : Spec
marks = record {
  name = codes "marks";
  kind = kinds.flags 3;
  flags = 3;
  default = values.flags 3 0;
  low = pos 0;
  high = pos 0;
  weak = false;
}

abbrev count : Spec
count = record {
  name = codes "count";
  kind = kinds.whole int;
  flags = 3;
  default = values.whole int (pos 0);
  low = negsuc 2;
  high = pos 9;
  weak = false;
}

abbrev player : Spec
player = record {
  name = codes "player";
  kind = kinds.object 4;
  flags = 3;
  default = values.object None;
  low = pos 0;
  high = pos 0;
  weak = false;
}

clears_bits : clamp one_player examples marks (values.flags 3 5) ≡ values.flags 3 1
clears_bits = refl

goes_to_the_end : clamp one_player examples count (values.whole int (negsuc 3)) ≡ values.whole int (negsuc 2)
goes_to_the_end = refl

keeps_the_end : is_valid one_player examples count (values.whole int (pos 9)) ≡ true
keeps_the_end = refl

keeps_the_player : is_valid one_player examples player (values.object (Some 1)) ≡ true
keeps_the_player = refl

drops_the_dead : clamp (λ n. None) examples player (values.object (Some 1)) ≡ values.object None
drops_the_dead = refl

fits_unknown_bits : kind_fits one_player examples (values.flags 3 4) (kinds.flags 3) ≡ true
fits_unknown_bits = refl
