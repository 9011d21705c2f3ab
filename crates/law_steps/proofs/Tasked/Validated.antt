-- What validation makes of a value is valid in each property that was read.
use Rattle.std.proofs.Common.{◌≡◌, refl, sym, ap, subst, ◌∙◌, ℕ, zero, suc, ◌^◌, ◌<◌, Bool, true, false, cond, List, [], ◌∷◌, Option, None, Some, ℤ, arith}
use Rattle.std.specs.Prelude.{not, ◌&&◌, unsigned_abs, bit_and, int_lt}
use Rattle.std.specs.List.{list_all}
use Rattle.std.specs.Ordering.{int_eq}
use Rattle.std.specs.Cmp.{signed_Decides}
use Rattle.std.proofs.lemmas.Bool.{ltb-true}
use Rattle.std.proofs.lemmas.Int.{ints}
use Rattle.std.proofs.lemmas.Nat.{or_of_32, and_le_r}
use Rattle.ui_machine.specs.Definition.{Definition}
use Rattle.ui_machine.specs.Definition.Kinds.{Whole, Kind}
use Rattle.ui_machine.specs.Definition.Kinds as kinds
use Rattle.ui_machine.specs.Definition.Values.{Value}
use Rattle.ui_machine.specs.Definition.Values as values
use Rattle.ui_machine.specs.Definition.Types.{GType, Member}
use Rattle.ui_machine.specs.Definition.Properties.{Spec}
use Rattle.ui_machine.specs.Output.Text.{members_of}
use Rattle.ui_machine.specs.State.Objects.{Objects, living}
use Rattle.ui_machine.specs.Rules.Sets.{has_kind, is_disposed, unless_disposed, without_disposed}
use Rattle.ui_machine.specs.Rules.Transform.{same_whole, same_value, is_between, least, greatest, known_bits, kind_fits}
use Rattle.ui_machine.specs.Rules.Validation.{limited, clamp, is_valid}
use Rattle.machine_laws.specs.ClampLaws.{IsSound}
use Rattle.machine_laws.proofs.ClampProofs.{clamps_to_valid, clamps_once}
use Rattle.law_typing.specs.Laws.WellRead.{TypesRead, SpecRead, no_class_of, is_range, has_few_bits}
use Rattle.law_typing.proofs.Lists.{both_parts}

-- ** flags

known_few : (members : List Member) → list_all has_few_bits members ≡ true → known_bits members < 2 ^ 32
known_few [] e = omega arith
known_few (m ∷ ms) e =
    let p = both_parts (has_few_bits m) (list_all has_few_bits ms) e in
    or_of_32 (unsigned_abs m.number) (known_bits ms) (ltb-true (unsigned_abs m.number) (2 ^ 32) p.0) (known_few ms p.1)

type_few : (types : List GType) (t : ℕ) → list_all (λ (t : GType). list_all has_few_bits t.members) types ≡ true → list_all has_few_bits (members_of types t) ≡ true
type_few [] t e = refl
type_few (x ∷ types) zero e = (both_parts (list_all has_few_bits x.members) (list_all (λ (t : GType). list_all has_few_bits t.members) types) e).0
type_few (x ∷ types) (suc t) e = type_few types t (both_parts (list_all has_few_bits x.members) (list_all (λ (t : GType). list_all has_few_bits t.members) types) e).1

-- ** ranges

not_true : (b : Bool) → not b ≡ true → b ≡ false
not_true true e = absurd (cc)
not_true false e = refl

same_number : (m n : ℤ) → int_eq m n ≡ true → m ≡ n
same_number m n e = (signed_Decides m n).0 e

-- a number that a range leaves as it is lies in it, so that it is not empty
not_empty : (low high n : ℤ) → limited low high n ≡ n → int_lt high low ≡ false
not_empty low high n e = by (int_lt n low) (int_lt high n) refl refl e
  where
    ordered : (t : Bool) → int_lt high low ≡ t → int_lt n low ≡ false → int_lt high n ≡ false → int_lt high low ≡ false
    ordered true f p q = absurd (omega (arith, ints))
    ordered false f p q = f

    by : (a b : Bool) → int_lt n low ≡ a → int_lt high n ≡ b → cond (int_lt n low) low (cond (int_lt high n) high n) ≡ n → int_lt high low ≡ false
    by true b p q f = absurd (let same : low ≡ n = sym (ap (λ x. cond x low (cond (int_lt high n) high n)) p) ∙ f in omega (arith, ints, same))
    by false true p q f =
        absurd (let same : high ≡ n = sym (ap (λ x. cond x low (cond (int_lt high n) high n)) p ∙ ap (λ x. cond x high n) q) ∙ f in omega (arith, ints, same))
    by false false p q f = ordered (int_lt high low) refl p q

-- ** a spec that was read is sound

module _ (d : Definition) (s : Spec) (r : SpecRead d s) where
  default_fits : kind_fits no_class_of d.types s.default s.kind ≡ true
  default_fits = (both_parts (kind_fits no_class_of d.types s.default s.kind) _ r.default).0

  default_stays : same_value (clamp no_class_of d.types s s.default) s.default ≡ true
  default_stays = (both_parts (kind_fits no_class_of d.types s.default s.kind) _ r.default).1

  whole_sound : (k : Whole) → s.kind ≡ kinds.whole k → IsSound d.types s (kinds.whole k)
  whole_sound k is =
      let range = both_parts (is_between (least k) (greatest k) s.low) (is_between (least k) (greatest k) s.high) (ap (λ kind. is_range kind s.low s.high) (sym is) ∙ r.range) in
      let low = both_parts (not (int_lt s.low (least k))) (not (int_lt (greatest k) s.low)) range.0 in
      let high = both_parts (not (int_lt s.high (least k))) (not (int_lt (greatest k) s.high)) range.1 in
      (filled s.default (subst (λ kind. kind_fits no_class_of d.types s.default kind ≡ true) is default_fits) default_stays, not_true _ low.0, not_true _ high.1)
    where
      filled : (v : Value) → kind_fits no_class_of d.types v (kinds.whole k) ≡ true → same_value (clamp no_class_of d.types s v) v ≡ true → int_lt s.high s.low ≡ false
      filled (values.whole l n) f e = not_empty s.low s.high n (same_number (limited s.low s.high n) n (both_parts (same_whole l l) (int_eq (limited s.low s.high n) n) e).1)
      filled (values.bool b) f e = absurd (cc)
      filled (values.text t) f e = absurd (cc)
      filled (values.enum t n) f e = absurd (cc)
      filled (values.flags t n) f e = absurd (cc)
      filled (values.object None) f e = absurd (cc)
      filled (values.object (Some i)) f e = absurd (cc)

  sound_at : (kind : Kind) → s.kind ≡ kind → IsSound d.types s kind
  sound_at kinds.bool is = tt
  sound_at (kinds.whole k) is = whole_sound k is
  sound_at kinds.text is = tt
  sound_at (kinds.enum t) is = subst (λ kind. kind_fits no_class_of d.types s.default kind ≡ true) is default_fits
  sound_at (kinds.flags t) is = tt
  sound_at (kinds.object t) is = tt

  pub validated : TypesRead d → (f : ℕ → Option ℕ) (v : Value) → has_kind v s.kind ≡ true → is_valid f d.types s (clamp f d.types s v) ≡ true
  validated types f (values.flags t bits) h =
      let once = clamps_once f d.types s (values.flags t bits) (sound_at s.kind refl) h in
      let few = known_few (members_of d.types t) (type_few d.types t types.members) in
      let less = and_le_r bits (known_bits (members_of d.types t)) in
      subst (λ v. is_valid f d.types s v ≡ true) once
      (clamps_to_valid f d.types s (clamp f d.types s (values.flags t bits)) (sound_at s.kind refl) (flags_kind s.kind h) (omega (arith, few, less)))
    where
      flags_kind : (kind : Kind) → has_kind (values.flags t bits) kind ≡ true → has_kind (values.flags t (bit_and bits (known_bits (members_of d.types t)))) kind ≡ true
      flags_kind (kinds.flags u) e = e
      flags_kind _ e = absurd (cc)
  validated types f (values.bool b) h = clamps_to_valid f d.types s (values.bool b) (sound_at s.kind refl) h tt
  validated types f (values.whole k n) h = clamps_to_valid f d.types s (values.whole k n) (sound_at s.kind refl) h tt
  validated types f (values.text t) h = clamps_to_valid f d.types s (values.text t) (sound_at s.kind refl) h tt
  validated types f (values.enum t n) h = clamps_to_valid f d.types s (values.enum t n) (sound_at s.kind refl) h tt
  validated types f (values.object o) h = clamps_to_valid f d.types s (values.object o) (sound_at s.kind refl) h tt

-- ** a weak property takes no disposed object

module _ (f : ℕ → Option ℕ) (types : List GType) (os : Objects) (s : Spec) where
  either_way : {A : Type 0} (b : Bool) (x : A) → cond b x x ≡ x
  either_way true x = refl
  either_way false x = refl

  null_fits : (i : ℕ) (kind : Kind) → kind_fits f types (values.object (Some i)) kind ≡ true → kind_fits f types (values.object None) kind ≡ true
  null_fits i (kinds.object t) e = refl
  null_fits i _ e = absurd (cc)

  null_valid : (i : ℕ) → is_valid f types s (values.object (Some i)) ≡ true → is_valid f types s (values.object None) ≡ true
  null_valid i e =
      let fits = null_fits i s.kind (both_parts (kind_fits f types (values.object (Some i)) s.kind) _ e).0 in
      ap (λ b. b && same_value (clamp f types s (values.object None)) (values.object None)) fits
      ∙ ap (λ v. same_value v (values.object None)) (either_way (kind_fits f types (values.object None) s.kind) (values.object None))

  unless_valid : (v : Value) → is_valid f types s v ≡ true → is_valid f types s (unless_disposed os v) ≡ true
  unless_valid (values.bool b) e = e
  unless_valid (values.whole k n) e = e
  unless_valid (values.text t) e = e
  unless_valid (values.enum t n) e = e
  unless_valid (values.flags t n) e = e
  unless_valid (values.object None) e = e
  unless_valid (values.object (Some i)) e = go (is_disposed (living os i))
    where
      go : (b : Bool) → is_valid f types s (values.object (cond b None (Some i))) ≡ true
      go true = null_valid i e
      go false = e

  pub kept_valid : (v : Value) → is_valid f types s v ≡ true → is_valid f types s (without_disposed os s v) ≡ true
  kept_valid v e = go s.weak
    where
      go : (b : Bool) → is_valid f types s (cond b (unless_disposed os v) v) ≡ true
      go true = unless_valid v e
      go false = e
