-- What it says of an instruction's registers that it keeps its rule, and what they hold then.
use Rattle.std.proofs.Common.{◌≡◌, inl, inr, ◌⊎◌, refl, sym, ap, subst, ◌∙◌, ℕ, Bool, true, false, List, Option, None, Some, Result, Ok, Err}
use Rattle.std.specs.Prelude.{◌&&◌, ℤ}
use Rattle.ui_machine.specs.Definition.Kinds.{Whole, Kind, RegisterKind}
use Rattle.ui_machine.specs.Definition.Kinds as kinds
use Rattle.ui_machine.specs.Definition.Values.{Value}
use Rattle.ui_machine.specs.Definition.Values as values
use Rattle.ui_machine.specs.Definition.{Definition}
use Rattle.ui_machine.specs.Outcome.{◌>>=◌, known, only_if}
use Rattle.ui_machine.specs.Rules.Sets.{has_kind}
use Rattle.ui_machine.specs.Rules.Transform.{same_whole, is_between, least, greatest}
use Rattle.ui_machine.specs.Instructions.Arithmetic.{kind_of}
use Rattle.law_typing.specs.Rules.RegisterKinds.{Kinds, kind_in, holds_objects}
use Rattle.law_typing.specs.Rules.Typing.{unless_unset, set_in, passing, two_numbers, two_passing, is_bool, is_text, is_whole, is_same, is_comparable}
use Rattle.law_typing.specs.Laws.WellRead.{is_set}
use Rattle.law_typing.specs.Good.Standing.{Standing, holds}
use Rattle.law_typing.proofs.Lists.{both_parts, either_part}
use Rattle.law_static.proofs.Same.{wholes_same, kind_same}
use Rattle.law_static.proofs.FitsProofs.{of_kind}
use Rattle.law_typing.specs.Good.Standing.{class_by}

-- ** one after the other

pub bound : {A B E : Type 0} (x : Result A E) (f : A → Result B E) (y : B) → (x >>= f) ≡ Ok y → (u : A) × (x ≡ Ok u) × (f u ≡ Ok y)
bound (Ok u) f y e = (u, refl, e)
bound (Err rule) f y e = absurd (cc)

pub only : {A E : Type 0} (b : Bool) (rule : E) (x : Result A E) (y : A) → only_if b rule x ≡ Ok y → (b ≡ true) × (x ≡ Ok y)
only true rule x y e = (refl, e)
only false rule x y e = absurd (cc)

pub known_is : {A E : Type 0} (rule : E) (o : Option A) (y : A) → known rule o ≡ Ok y → o ≡ Some y
known_is rule None y e = absurd (cc)
known_is rule (Some x) y e = let s : x ≡ y = cc in ap Some s

-- ** kinds

unset_not : (k l : RegisterKind) → unless_unset k ≡ Ok l → (k ≡ l) × (is_set k ≡ true)
unset_not kinds.unset l e = absurd (cc)
unset_not (kinds.plain kind) l e = ((let s : kinds.plain kind ≡ l = cc in s), refl)
unset_not (kinds.some type) l e = ((let s : kinds.some type ≡ l = cc in s), refl)
unset_not (kinds.at place) l e = ((let s : kinds.at place ≡ l = cc in s), refl)
unset_not (kinds.at_or_null place) l e = ((let s : kinds.at_or_null place ≡ l = cc in s), refl)

pub set_is : (ks : Kinds) (register : ℕ) (k : RegisterKind) → set_in ks register ≡ Ok k → (kind_in ks register ≡ k) × (is_set (kind_in ks register) ≡ true)
set_is ks register k e = unset_not (kind_in ks register) k e

pub passing_is : (ks : Kinds) (register : ℕ) (test : RegisterKind → Bool) (k : RegisterKind) → passing ks register test ≡ Ok k →
    (kind_in ks register ≡ k) × (is_set (kind_in ks register) ≡ true) × (test (kind_in ks register) ≡ true)
unfolding passing
passing_is ks register test k e =
    let b = bound (set_in ks register) _ k e in
    let set = set_is ks register b.0 b.1 in
    let o = only (test b.0) _ _ k b.2 in
    (set.0 ∙ (let s : b.0 ≡ k = (let e = o.1 in cc) in s), set.1, ap test set.0 ∙ o.0)

pub numbers_are : (ks : Kinds) (x y : ℕ) (k : RegisterKind) → two_numbers ks x y ≡ Ok k →
    (kind_in ks x ≡ k) × (is_whole (kind_in ks x) ≡ true) × (is_same (kind_in ks x) (kind_in ks y) ≡ true)
unfolding two_numbers
numbers_are ks x y k e =
    let b = bound (passing ks x is_whole) _ k e in
    let c = bound (passing ks y (is_same b.0)) _ k b.2 in
    let p = passing_is ks x is_whole b.0 b.1 in
    let q = passing_is ks y (is_same b.0) c.0 c.1 in
    (p.0 ∙ (let s : b.0 ≡ k = (let e = c.2 in cc) in s), p.2, ap (λ k. is_same k (kind_in ks y)) p.0 ∙ q.2)

pub two_are : (ks : Kinds) (x y : ℕ) (test : RegisterKind → Bool) (k : RegisterKind) → two_passing ks x y test ≡ Ok k →
    (test (kind_in ks x) ≡ true) × (test (kind_in ks y) ≡ true) × (kind_in ks y ≡ k)
unfolding two_passing
two_are ks x y test k e =
    let b = bound (passing ks x test) _ k e in
    let p = passing_is ks x test b.0 b.1 in
    let q = passing_is ks y test k b.2 in
    (p.2, q.2, q.0)

-- ** what registers hold

module _ (d : Definition) (s : Standing) where
  pub truth_at : (k : RegisterKind) (v : Option Value) → is_bool k ≡ true → holds d s k v ≡ true → (b : Bool) × (v ≡ Some (values.bool b))
  truth_at (kinds.plain kinds.bool) (Some (values.bool b)) e h = (b, refl)
  truth_at (kinds.plain kinds.bool) None e h = absurd (cc)
  truth_at (kinds.plain kinds.bool) (Some (values.whole k n)) e h = absurd (cc)
  truth_at (kinds.plain kinds.bool) (Some (values.text t)) e h = absurd (cc)
  truth_at (kinds.plain kinds.bool) (Some (values.enum t n)) e h = absurd (cc)
  truth_at (kinds.plain kinds.bool) (Some (values.flags t n)) e h = absurd (cc)
  truth_at (kinds.plain kinds.bool) (Some (values.object None)) e h = absurd (cc)
  truth_at (kinds.plain kinds.bool) (Some (values.object (Some id))) e h = absurd (cc)
  truth_at _ v e h = absurd (cc)

  pub text_at : (k : RegisterKind) (v : Option Value) → is_text k ≡ true → holds d s k v ≡ true → (t : Option (List ℕ)) × (v ≡ Some (values.text t))
  text_at (kinds.plain kinds.text) (Some (values.text t)) e h = (t, refl)
  text_at (kinds.plain kinds.text) None e h = absurd (cc)
  text_at (kinds.plain kinds.text) (Some (values.whole k n)) e h = absurd (cc)
  text_at (kinds.plain kinds.text) (Some (values.bool b)) e h = absurd (cc)
  text_at (kinds.plain kinds.text) (Some (values.enum t n)) e h = absurd (cc)
  text_at (kinds.plain kinds.text) (Some (values.flags t n)) e h = absurd (cc)
  text_at (kinds.plain kinds.text) (Some (values.object None)) e h = absurd (cc)
  text_at (kinds.plain kinds.text) (Some (values.object (Some id))) e h = absurd (cc)
  text_at _ v e h = absurd (cc)

  whole_at_kind : (k : Whole) (v : Option Value) → holds d s (kinds.plain (kinds.whole k)) v ≡ true → (n : ℤ) × (v ≡ Some (values.whole k n))
  whole_at_kind k (Some (values.whole l n)) h =
      (n, (let e = wholes_same l k (both_parts (same_whole l k) (is_between (least k) (greatest k) n) h).0 in ap (λ l. Some (values.whole l n)) e))
  whole_at_kind k None h = absurd (cc)
  whole_at_kind k (Some (values.text t)) h = absurd (cc)
  whole_at_kind k (Some (values.bool b)) h = absurd (cc)
  whole_at_kind k (Some (values.enum t n)) h = absurd (cc)
  whole_at_kind k (Some (values.flags t n)) h = absurd (cc)
  whole_at_kind k (Some (values.object None)) h = absurd (cc)
  whole_at_kind k (Some (values.object (Some id))) h = absurd (cc)

  -- two whole numbers of one kind
  pub record Numbers (k : RegisterKind) (u v : Option Value) : Type 0 where
    pub kind : Whole
    pub is : k ≡ kinds.plain (kinds.whole kind)
    pub x : ℤ
    pub y : ℤ
    pub first : u ≡ Some (values.whole kind x)
    pub second : v ≡ Some (values.whole kind y)

  same_plain : (k : Whole) (l : RegisterKind) → is_same (kinds.plain (kinds.whole k)) l ≡ true → kinds.plain (kinds.whole k) ≡ l
  same_plain k (kinds.plain kind) e = ap kinds.plain (kind_same (kinds.whole k) kind e)
  same_plain k _ e = absurd (cc)

  pub numbers_at : (k l : RegisterKind) (u v : Option Value) → is_whole k ≡ true → is_same k l ≡ true → holds d s k u ≡ true → holds d s l v ≡ true → Numbers k u v
  numbers_at (kinds.plain (kinds.whole k)) l u v e same h g =
      let p = whole_at_kind k u h in
      let q = whole_at_kind k v (subst (λ l. holds d s l v ≡ true) (sym (same_plain k l same)) g) in
      record { kind = k; is = refl; x = p.0; y = q.0; first = p.1; second = q.1 }
  numbers_at _ l u v e same h g = absurd (cc)

  -- ** what may be compared

  pub object_at : (k : RegisterKind) (v : Value) → holds_objects d k ≡ true → holds d s k (Some v) ≡ true → (o : Option ℕ) × (v ≡ values.object o)
  object_at k (values.object o) e h = (o, refl)
  object_at (kinds.plain (kinds.object t)) (values.bool b) e h = absurd (cc)
  object_at (kinds.plain (kinds.object t)) (values.whole l n) e h = absurd (cc)
  object_at (kinds.plain (kinds.object t)) (values.text x) e h = absurd (cc)
  object_at (kinds.plain (kinds.object t)) (values.enum u n) e h = absurd (cc)
  object_at (kinds.plain (kinds.object t)) (values.flags u n) e h = absurd (cc)
  object_at kinds.unset v e h = absurd (cc)
  object_at (kinds.plain kinds.bool) v e h = absurd (cc)
  object_at (kinds.plain (kinds.whole k)) v e h = absurd (cc)
  object_at (kinds.plain kinds.text) v e h = absurd (cc)
  object_at (kinds.plain (kinds.enum t)) v e h = absurd (cc)
  object_at (kinds.plain (kinds.flags t)) v e h = absurd (cc)
  object_at (kinds.some t) v e h = absurd (cc)
  object_at (kinds.at t) v e h = absurd (cc)
  object_at (kinds.at_or_null t) v e h = absurd (cc)

  kind_also : (kind : Kind) (u v : Value) → has_kind u kind ≡ true → has_kind v kind ≡ true → has_kind v (kind_of u) ≡ true
  kind_also kinds.bool (values.bool b) v e f = f
  kind_also (kinds.whole k) (values.whole l n) v e f = subst (λ l. has_kind v (kinds.whole l) ≡ true) (sym (wholes_same l k e)) f
  kind_also kinds.text (values.text t) v e f = f
  kind_also (kinds.enum t) (values.enum u n) v e f = subst (λ k. has_kind v k ≡ true) (sym (kind_same (kinds.enum u) (kinds.enum t) e)) f
  kind_also (kinds.flags t) (values.flags u n) v e f = subst (λ k. has_kind v k ≡ true) (sym (kind_same (kinds.flags u) (kinds.flags t) e)) f
  kind_also (kinds.object t) (values.object o) (values.object x) e f = refl
  kind_also _ _ v e f = absurd (cc)

  pub comparable : (k l : RegisterKind) (u v : Value) → is_comparable d k l ≡ true → holds d s k (Some u) ≡ true → holds d s l (Some v) ≡ true → has_kind v (kind_of u) ≡ true
  comparable k l u v e h g = go (either_part (is_same k l) (holds_objects d k && holds_objects d l) e)
    where
      plain : (k l : RegisterKind) → is_same k l ≡ true → holds d s k (Some u) ≡ true → holds d s l (Some v) ≡ true → has_kind v (kind_of u) ≡ true
      plain (kinds.plain a) (kinds.plain b) e h g =
          let same = kind_same a b e in
          kind_also a u v (of_kind (class_by d s) d.types u a h) (subst (λ k. has_kind v k ≡ true) (sym same) (of_kind (class_by d s) d.types v b g))
      plain _ _ e h g = absurd (cc)

      objects : (a b : Value) (x y : Option ℕ) → a ≡ values.object x → b ≡ values.object y → has_kind b (kind_of a) ≡ true
      objects a b x y e f = rw (e, f) refl

      go : (is_same k l ≡ true) ⊎ ((holds_objects d k && holds_objects d l) ≡ true) → has_kind v (kind_of u) ≡ true
      go (inl e) = plain k l e h g
      go (inr e) =
          let b = both_parts (holds_objects d k) (holds_objects d l) e in
          let x = object_at k u b.0 h in
          let y = object_at l v b.1 g in
          objects u v x.0 y.0 x.1 y.1
