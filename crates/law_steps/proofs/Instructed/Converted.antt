-- A converted value, or the zero value, is of the kind that it is converted to.
use Rattle.std.proofs.Common.{◌≡◌, refl, sym, ap, subst, ◌∙◌, ℕ, ◌^◌, Bool, true, false, cond, List, [], ◌∷◌, Option, None, Some, ℤ, pos, negsuc}
use Rattle.std.specs.Prelude.{not, ◌&&◌, nat_eq, nat_lt, unsigned_abs}
use Rattle.std.specs.Cmp.{signed_Decides}
use Rattle.std.proofs.lemmas.Bool.{eqb-true, eq-eqb}
use Rattle.ui_machine.specs.Definition.{Definition}
use Rattle.ui_machine.specs.Definition.Kinds.{Whole, int, uint, int64, uint64, Kind}
use Rattle.ui_machine.specs.Definition.Kinds as kinds
use Rattle.ui_machine.specs.Definition.Types.{GType, Member}
use Rattle.ui_machine.specs.Definition.Values.{Value}
use Rattle.ui_machine.specs.Definition.Values as values
use Rattle.ui_machine.specs.Output.Text.{members_of}
use Rattle.ui_machine.specs.Rules.Accumulation.{or_zero}
use Rattle.ui_machine.specs.Rules.Transform.{same_whole, is_between, least, greatest, has_number, is_known, number_of_bool, first_number, zero_value, kind_fits, is_transformable, if_so, converted, transformed, wrapped}
use Rattle.ui_machine.specs.Instructions.Arithmetic.{is_object_kind, kind_of}
use Rattle.law_typing.specs.Graph.Channels.{is_filled}
use Rattle.law_typing.proofs.Lists.{both_parts}
use Rattle.law_static.proofs.Same.{wholes_same}
use Rattle.law_steps.proofs.Instructed.Wrapped.{whole_fits}

both : (a b : Bool) → a ≡ true → b ≡ true → (a && b) ≡ true
both a b p q = ap (λ x. x && b) p ∙ q

-- a value is of its own kind, if that is not of objects
pub own_kind : (f : ℕ → Option ℕ) (types : List GType) (v : Value) (k : Kind) → not (is_object_kind k) ≡ true → kind_fits f types v k ≡ true → kind_of v ≡ k
own_kind f types (values.bool b) kinds.bool o e = refl
own_kind f types (values.whole l n) (kinds.whole k) o e = ap kinds.whole (wholes_same l k (both_parts (same_whole l k) (is_between (least k) (greatest k) n) e).0)
own_kind f types (values.text t) kinds.text o e = refl
own_kind f types (values.enum t n) (kinds.enum u) o e = ap kinds.enum (eqb-true t u (both_parts (nat_eq t u) (has_number (members_of types u) n) e).0)
own_kind f types (values.flags t n) (kinds.flags u) o e = ap kinds.flags (eqb-true t u (both_parts (nat_eq t u) (nat_lt n (2 ^ 32)) e).0)
own_kind f types (values.object None) (kinds.object t) o e = absurd (cc)
own_kind f types (values.object (Some id)) (kinds.object t) o e = absurd (cc)
own_kind f types _ _ o e = absurd (cc)

module _ (f : ℕ → Option ℕ) (types : List GType) where
  -- each kind with values has its zero value
  first_member : (members : List Member) → is_filled members ≡ true → has_number members (first_number members) ≡ true
  first_member [] e = absurd (cc)
  first_member (m ∷ ms) e = rw ((signed_Decides m.number m.number).1 refl) refl

  same_itself : (k : Whole) → (same_whole k k && is_between (least k) (greatest k) (pos 0)) ≡ true
  same_itself int = refl
  same_itself uint = refl
  same_itself int64 = refl
  same_itself uint64 = refl

  zero_fits : (kind : Kind) → ((t : ℕ) → kind ≡ kinds.enum t → is_filled (members_of types t) ≡ true) → kind_fits f types (zero_value types kind) kind ≡ true
  zero_fits kinds.bool some = refl
  zero_fits (kinds.whole k) some = same_itself k
  zero_fits kinds.text some = refl
  zero_fits (kinds.enum t) some = both (nat_eq t t) (has_number (members_of types t) (first_number (members_of types t))) (eq-eqb t t refl) (first_member (members_of types t) (some t refl))
  zero_fits (kinds.flags t) some = both (nat_eq t t) true (eq-eqb t t refl) refl
  zero_fits (kinds.object t) some = refl

  bool_whole : (k : Whole) (b : Bool) → (same_whole k k && is_between (least k) (greatest k) (number_of_bool b)) ≡ true
  bool_whole int true = refl
  bool_whole int false = refl
  bool_whole uint true = refl
  bool_whole uint false = refl
  bool_whole int64 true = refl
  bool_whole int64 false = refl
  bool_whole uint64 true = refl
  bool_whole uint64 false = refl

  -- what fits, or nothing
  abbrev pub IsOf : Kind → Option Value → Type 0
  IsOf kind o = (u : Value) → o ≡ Some u → kind_fits f types u kind ≡ true

  just : (kind : Kind) (v : Value) → kind_fits f types v kind ≡ true → IsOf kind (Some v)
  just kind v e u is = let s : v ≡ u = cc in subst (λ v. kind_fits f types v kind ≡ true) s e

  if_fits : (kind : Kind) (b : Bool) (v : Value) → (b ≡ true → kind_fits f types v kind ≡ true) → IsOf kind (if_so b v)
  if_fits kind true v fit u is = just kind v (fit refl) u is
  if_fits kind false v fit u is = absurd (cc)

  known_fits : (t : ℕ) (n : ℤ) (members : List Member) → is_known members n ≡ true → kind_fits f types (values.flags t (unsigned_abs n)) (kinds.flags t) ≡ true
  known_fits t (pos n) members e = both (nat_eq t t) (nat_lt n (2 ^ 32)) (eq-eqb t t refl) (both_parts (nat_lt n (2 ^ 32)) _ e).0
  known_fits t (negsuc n) members e = absurd (cc)

  converted_fits : (kind : Kind) (v : Value) → not (is_object_kind kind) ≡ true → is_transformable types (kind_of v) kind ≡ true → kind_fits f types v (kind_of v) ≡ true →
      IsOf kind (converted types kind v)
  converted_fits kinds.bool (values.bool b) o t e = just kinds.bool (values.bool b) refl
  converted_fits (kinds.whole k) (values.bool b) o t e = just (kinds.whole k) (values.whole k (number_of_bool b)) (bool_whole k b)
  converted_fits kinds.text (values.bool b) o t e = just kinds.text _ refl
  converted_fits kinds.bool (values.whole l n) o t e = just kinds.bool _ refl
  converted_fits (kinds.whole k) (values.whole l n) o t e = just (kinds.whole k) (values.whole k (wrapped k n)) (whole_fits k n)
  converted_fits kinds.text (values.whole l n) o t e = just kinds.text _ refl
  converted_fits (kinds.enum u) (values.whole l n) o t e =
      if_fits (kinds.enum u) (has_number (members_of types u) n) (values.enum u n) (λ h. both (nat_eq u u) (has_number (members_of types u) n) (eq-eqb u u refl) h)
  converted_fits (kinds.flags u) (values.whole l n) o t e =
      if_fits (kinds.flags u) (is_known (members_of types u) n) (values.flags u (unsigned_abs n)) (λ h. known_fits u n (members_of types u) h)
  converted_fits kinds.text (values.text s) o t e = just kinds.text (values.text s) refl
  converted_fits (kinds.whole k) (values.enum u n) o t e = just (kinds.whole k) (values.whole k (wrapped k n)) (whole_fits k n)
  converted_fits (kinds.enum x) (values.enum u n) o t e = just (kinds.enum x) (values.enum u n) (subst (λ x. kind_fits f types (values.enum u n) (kinds.enum x) ≡ true) (eqb-true u x t) e)
  converted_fits (kinds.whole k) (values.flags u n) o t e = just (kinds.whole k) (values.whole k (wrapped k (pos n))) (whole_fits k (pos n))
  converted_fits (kinds.flags x) (values.flags u n) o t e = just (kinds.flags x) (values.flags u n) (subst (λ x. kind_fits f types (values.flags u n) (kinds.flags x) ≡ true) (eqb-true u x t) e)
  converted_fits (kinds.object x) v o t e = absurd (cc)
  converted_fits _ _ o t e = absurd (cc)

  -- what is converted, or else the zero value
  pub or_zero_fits : (d : Definition) → d.types ≡ types → (kind : Kind) (o : Option Value) → IsOf kind o → ((t : ℕ) → kind ≡ kinds.enum t → is_filled (members_of types t) ≡ true) →
      kind_fits f types (or_zero d kind o) kind ≡ true
  or_zero_fits d e kind None fit some = ap (λ types_. kind_fits f types (zero_value types_ kind) kind) e ∙ zero_fits kind some
  or_zero_fits d e kind (Some v) fit some = fit v refl

  pub transformed_fits : (kind : Kind) (v : Value) → not (is_object_kind kind) ≡ true → is_transformable types (kind_of v) kind ≡ true → kind_fits f types v (kind_of v) ≡ true →
      IsOf kind (transformed types (kind_of v) kind v)
  transformed_fits kind v o t e = subst (λ b. IsOf kind (cond b (converted types kind v) None)) (sym t) (converted_fits kind v o t e)
