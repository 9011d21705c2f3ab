-- Validation: a validated value is valid, and stays.
use Rattle.std.proofs.Common.{◌≡◌, refl, ap, sym, subst, ◌∙◌, ℕ, ◌<◌, ◌^◌, Bool, true, false, cond, List, [], ◌∷◌, Option, None, Some, arith, lt-ltb}
use Rattle.std.specs.Prelude.{ℤ, int_lt, bit_and, not, ◌&&◌, nat_eq, nat_lt}
use Rattle.std.specs.Ordering.{int_eq}
use Rattle.std.specs.Cmp.{signed_Decides}
use Rattle.std.specs.Int.Bits.{and_self}
use Rattle.std.proofs.lemmas.Nat.{and_assoc, and_le_l}
use Rattle.std.proofs.lemmas.Int.{ints}
use Rattle.std.proofs.lemmas.Bool.{eqb-true, eq-eqb}
use Rattle.ui_machine.specs.Definition.Kinds.{Whole, int, uint, int64, uint64, Kind}
use Rattle.ui_machine.specs.Definition.Kinds as kinds
use Rattle.ui_machine.specs.Definition.Values.{Value}
use Rattle.ui_machine.specs.Definition.Values as values
use Rattle.ui_machine.specs.Definition.Types.{GType}
use Rattle.ui_machine.specs.Definition.Names.{same_name}
use Rattle.ui_machine.specs.Output.Text.{members_of}
use Rattle.ui_machine.specs.Definition.Properties.{Spec}
use Rattle.ui_machine.specs.Rules.Transform.{least, greatest, is_between, has_number, known_bits, same_whole, kind_fits, same_bool, same_text, same_object, same_value}
use Rattle.ui_machine.specs.Rules.Validation.{limited, clamp}
use Rattle.ui_machine.specs.Rules.Sets.{has_kind}
use Rattle.machine_laws.specs.ClampLaws.{IsSound, HasFewBits, ClampsToValid, ClampsOnce}

-- ** truth

both_true : (a b : Bool) → a ≡ true → b ≡ true → (a && b) ≡ true
both_true a b p q = ap (λ x. x && b) p ∙ q

either_way : {A : Type 0} (b : Bool) (x : A) → cond b x x ≡ x
either_way true x = refl
either_way false x = refl

-- ** numbers

-- an order of three
not_less : (x y z : ℤ) → int_lt y x ≡ false → int_lt z y ≡ false → int_lt z x ≡ false
not_less x y z p q = by (int_lt z x) refl
  where
    by : (t : Bool) → int_lt z x ≡ t → int_lt z x ≡ false
    by true e = absurd (omega (arith, ints))
    by false e = e

-- a limited number is not limited again
limited_once : (low high n : ℤ) → int_lt high low ≡ false → limited low high (limited low high n) ≡ limited low high n
limited_once low high n p = by_low (int_lt n low) refl
  where
    at_low : limited low high low ≡ low
    at_low = ap (λ b. cond (int_lt low low) low (cond b high low)) p ∙ either_way (int_lt low low) low

    at_high : limited low high high ≡ high
    at_high = ap (λ b. cond b low (cond (int_lt high high) high high)) p ∙ either_way (int_lt high high) high

    by_high : (over : Bool) → int_lt high n ≡ over → int_lt n low ≡ false → limited low high (cond over high n) ≡ cond over high n
    by_high true e f = at_high
    by_high false e f = ap (λ b. cond b low (cond (int_lt high n) high n)) f ∙ ap (λ b. cond b high n) e

    by_low : (under : Bool) → int_lt n low ≡ under → limited low high (cond under low (cond (int_lt high n) high n)) ≡ cond under low (cond (int_lt high n) high n)
    by_low true e = at_low
    by_low false e = by_high (int_lt high n) refl e

is_between_if : (bottom top n : ℤ) → int_lt n bottom ≡ false → int_lt top n ≡ false → is_between bottom top n ≡ true
is_between_if bottom top n p q = both_true (not (int_lt n bottom)) (not (int_lt top n)) (ap not p) (ap not q)

-- a limited number is between what is outside of the limits
limited_between : (bottom low high top n : ℤ) → int_lt high low ≡ false → int_lt low bottom ≡ false → int_lt top high ≡ false → is_between bottom top (limited low high n) ≡ true
limited_between bottom low high top n p q r = by_low (int_lt n low) refl
  where
    by_high : (over : Bool) → int_lt high n ≡ over → int_lt n low ≡ false → is_between bottom top (cond over high n) ≡ true
    by_high true e f = is_between_if bottom top high (not_less bottom low high q p) r
    by_high false e f = is_between_if bottom top n (not_less bottom low n q f) (not_less n high top e r)

    by_low : (under : Bool) → int_lt n low ≡ under → is_between bottom top (cond under low (cond (int_lt high n) high n)) ≡ true
    by_low true e = is_between_if bottom top low q (not_less low high top p r)
    by_low false e = by_high (int_lt high n) refl e

-- ** once

module _ (living_class : ℕ → Option ℕ) (types : List GType) (s : Spec) where
  -- a default that is a member stays
  default_stays : (u : ℕ) (v : Value) → s.default ≡ v → kind_fits (λ id. None) types v (kinds.enum u) ≡ true → clamp living_class types s v ≡ v
  default_stays u (values.bool b) e f = absurd (cc)
  default_stays u (values.whole k n) e f = absurd (cc)
  default_stays u (values.text t) e f = absurd (cc)
  default_stays u (values.enum t n) e f = ap (λ v. cond (has_number (members_of types t) n) (values.enum t n) v) e ∙ either_way (has_number (members_of types t) n) (values.enum t n)
  default_stays u (values.flags t bits) e f = absurd (cc)
  default_stays u (values.object None) e f = absurd (cc)
  default_stays u (values.object (Some i)) e f = absurd (cc)

  enum_once : (t n-kind : ℕ) (n : ℤ) (is : Bool) → has_number (members_of types t) n ≡ is → clamp living_class types s s.default ≡ s.default →
      clamp living_class types s (cond is (values.enum t n) s.default) ≡ cond is (values.enum t n) s.default
  enum_once t u n true e f = ap (λ b. cond b (values.enum t n) s.default) e
  enum_once t u n false e f = f

  object_once : (o : Option ℕ) (is : Bool) → kind_fits living_class types (values.object o) s.kind ≡ is →
      clamp living_class types s (cond is (values.object o) (values.object None)) ≡ cond is (values.object o) (values.object None)
  object_once o true e = ap (λ b. cond b (values.object o) (values.object None)) e
  object_once o false e = either_way (kind_fits living_class types (values.object None) s.kind) (values.object None)

  once_at : (kind : Kind) (v : Value) → s.kind ≡ kind → IsSound types s kind → has_kind v kind ≡ true → clamp living_class types s (clamp living_class types s v) ≡ clamp living_class types s v
  once_at kind (values.bool b) k h f = refl
  once_at kinds.bool (values.whole l n) k h f = absurd (cc)
  once_at (kinds.whole m) (values.whole l n) k h f = ap (values.whole l) (limited_once s.low s.high n h.0)
  once_at kinds.text (values.whole l n) k h f = absurd (cc)
  once_at (kinds.enum t) (values.whole l n) k h f = absurd (cc)
  once_at (kinds.flags t) (values.whole l n) k h f = absurd (cc)
  once_at (kinds.object t) (values.whole l n) k h f = absurd (cc)
  once_at kind (values.text t) k h f = refl
  once_at kinds.bool (values.enum t n) k h f = absurd (cc)
  once_at (kinds.whole m) (values.enum t n) k h f = absurd (cc)
  once_at kinds.text (values.enum t n) k h f = absurd (cc)
  once_at (kinds.enum u) (values.enum t n) k h f = enum_once t u n (has_number (members_of types t) n) refl (default_stays u s.default refl h)
  once_at (kinds.flags u) (values.enum t n) k h f = absurd (cc)
  once_at (kinds.object u) (values.enum t n) k h f = absurd (cc)
  once_at kind (values.flags t bits) k h f =
      let known = known_bits (members_of types t) in
      ap (values.flags t) (and_assoc known bits known ∙ ap (bit_and bits) (and_self known))
  once_at kind (values.object o) k h f = object_once o (kind_fits living_class types (values.object o) s.kind) refl

pub clamps_once : ClampsOnce
clamps_once living_class types s v h f = once_at living_class types s s.kind v refl h f

-- ** valid

same_whole_itself : (k : Whole) → same_whole k k ≡ true
same_whole_itself int = refl
same_whole_itself uint = refl
same_whole_itself int64 = refl
same_whole_itself uint64 = refl

int_eq_itself : (n : ℤ) → int_eq n n ≡ true
int_eq_itself n = (signed_Decides n n).1 refl

same_name_itself : (s : List ℕ) → same_name s s ≡ true
same_name_itself [] = refl
same_name_itself (x ∷ xs) = ap (λ b. cond b (same_name xs xs) false) (eq-eqb x x refl) ∙ same_name_itself xs

same_text_itself : (s : Option (List ℕ)) → same_text s s ≡ true
same_text_itself None = refl
same_text_itself (Some s) = same_name_itself s

same_object_itself : (o : Option ℕ) → same_object o o ≡ true
same_object_itself None = refl
same_object_itself (Some i) = eq-eqb i i refl

same_bool_itself : (b : Bool) → same_bool b b ≡ true
same_bool_itself true = refl
same_bool_itself false = refl

pub same_value_itself : (v : Value) → same_value v v ≡ true
same_value_itself (values.bool b) = same_bool_itself b
same_value_itself (values.whole k n) = both_true (same_whole k k) (int_eq n n) (same_whole_itself k) (int_eq_itself n)
same_value_itself (values.text s) = same_text_itself s
same_value_itself (values.enum t n) = both_true (nat_eq t t) (int_eq n n) (eq-eqb t t refl) (int_eq_itself n)
same_value_itself (values.flags t bits) = both_true (nat_eq t t) (nat_eq bits bits) (eq-eqb t t refl) (eq-eqb bits bits refl)
same_value_itself (values.object o) = same_object_itself o

less_bits : (bits known : ℕ) → bits < 2 ^ 32 → nat_lt (bit_and bits known) (2 ^ 32) ≡ true
less_bits bits known h = let l = and_le_l bits known in lt-ltb (bit_and bits known) (2 ^ 32) (omega (arith, l, h))

module _ (living_class : ℕ → Option ℕ) (types : List GType) (s : Spec) where
  member_fits : (u t : ℕ) (n : ℤ) (is : Bool) → t ≡ u → has_number (members_of types t) n ≡ is → kind_fits (λ id. None) types s.default (kinds.enum u) ≡ true →
      kind_fits living_class types (cond is (values.enum t n) s.default) (kinds.enum u) ≡ true
  member_fits u t n true e f h =
      both_true (nat_eq t u) (has_number (members_of types u) n) (eq-eqb t u e) (subst (λ x. has_number (members_of types x) n ≡ true) e f)
  member_fits u t n false e f h = default_fits s.default h
    where
      default_fits : (v : Value) → kind_fits (λ id. None) types v (kinds.enum u) ≡ true → kind_fits living_class types v (kinds.enum u) ≡ true
      default_fits (values.bool b) g = absurd (cc)
      default_fits (values.whole k n) g = absurd (cc)
      default_fits (values.text t) g = absurd (cc)
      default_fits (values.enum t n) g = g
      default_fits (values.flags t bits) g = absurd (cc)
      default_fits (values.object None) g = absurd (cc)
      default_fits (values.object (Some i)) g = absurd (cc)

  object_fits : (t : ℕ) (o : Option ℕ) (is : Bool) → kind_fits living_class types (values.object o) (kinds.object t) ≡ is →
      kind_fits living_class types (cond is (values.object o) (values.object None)) (kinds.object t) ≡ true
  object_fits t o true e = e
  object_fits t o false e = refl

  fits_at : (kind : Kind) (v : Value) → s.kind ≡ kind → IsSound types s kind → has_kind v kind ≡ true → HasFewBits v → kind_fits living_class types (clamp living_class types s v) kind ≡ true
  fits_at kinds.bool (values.bool b) k h f l = refl
  fits_at kinds.bool (values.whole m n) k h f l = absurd (cc)
  fits_at kinds.bool (values.text t) k h f l = absurd (cc)
  fits_at kinds.bool (values.enum t n) k h f l = absurd (cc)
  fits_at kinds.bool (values.flags t bits) k h f l = absurd (cc)
  fits_at kinds.bool (values.object o) k h f l = absurd (cc)
  fits_at (kinds.whole w) (values.bool b) k h f l = absurd (cc)
  fits_at (kinds.whole w) (values.whole m n) k h f l =
      both_true (same_whole m w) (is_between (least w) (greatest w) (limited s.low s.high n)) f (limited_between (least w) s.low s.high (greatest w) n h.0 h.1 h.2)
  fits_at (kinds.whole w) (values.text t) k h f l = absurd (cc)
  fits_at (kinds.whole w) (values.enum t n) k h f l = absurd (cc)
  fits_at (kinds.whole w) (values.flags t bits) k h f l = absurd (cc)
  fits_at (kinds.whole w) (values.object o) k h f l = absurd (cc)
  fits_at kinds.text (values.bool b) k h f l = absurd (cc)
  fits_at kinds.text (values.whole m n) k h f l = absurd (cc)
  fits_at kinds.text (values.text t) k h f l = refl
  fits_at kinds.text (values.enum t n) k h f l = absurd (cc)
  fits_at kinds.text (values.flags t bits) k h f l = absurd (cc)
  fits_at kinds.text (values.object o) k h f l = absurd (cc)
  fits_at (kinds.enum u) (values.bool b) k h f l = absurd (cc)
  fits_at (kinds.enum u) (values.whole m n) k h f l = absurd (cc)
  fits_at (kinds.enum u) (values.text t) k h f l = absurd (cc)
  fits_at (kinds.enum u) (values.enum t n) k h f l = member_fits u t n (has_number (members_of types t) n) (eqb-true t u f) refl h
  fits_at (kinds.enum u) (values.flags t bits) k h f l = absurd (cc)
  fits_at (kinds.enum u) (values.object o) k h f l = absurd (cc)
  fits_at (kinds.flags u) (values.bool b) k h f l = absurd (cc)
  fits_at (kinds.flags u) (values.whole m n) k h f l = absurd (cc)
  fits_at (kinds.flags u) (values.text t) k h f l = absurd (cc)
  fits_at (kinds.flags u) (values.enum t n) k h f l = absurd (cc)
  fits_at (kinds.flags u) (values.flags t bits) k h f l =
      both_true (nat_eq t u) (nat_lt (bit_and bits (known_bits (members_of types t))) (2 ^ 32)) f (less_bits bits (known_bits (members_of types t)) l)
  fits_at (kinds.flags u) (values.object o) k h f l = absurd (cc)
  fits_at (kinds.object t) (values.bool b) k h f l = absurd (cc)
  fits_at (kinds.object t) (values.whole m n) k h f l = absurd (cc)
  fits_at (kinds.object t) (values.text u) k h f l = absurd (cc)
  fits_at (kinds.object t) (values.enum u n) k h f l = absurd (cc)
  fits_at (kinds.object t) (values.flags u bits) k h f l = absurd (cc)
  fits_at (kinds.object t) (values.object o) k h f l =
      subst (λ (x : Kind). kind_fits living_class types (cond (kind_fits living_class types (values.object o) x) (values.object o) (values.object None)) (kinds.object t) ≡ true) (sym k)
      (object_fits t o (kind_fits living_class types (values.object o) (kinds.object t)) refl)

pub clamps_to_valid : ClampsToValid
clamps_to_valid living_class types s v h f l =
    both_true (kind_fits living_class types (clamp living_class types s v) s.kind) (same_value (clamp living_class types s (clamp living_class types s v)) (clamp living_class types s v))
    (fits_at living_class types s s.kind v refl h f l)
    (ap (λ w. same_value w (clamp living_class types s v)) (clamps_once living_class types s v h f) ∙ same_value_itself (clamp living_class types s v))
