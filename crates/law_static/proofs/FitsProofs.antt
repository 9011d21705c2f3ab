-- What a register holds, by the kind that it has where it is read.
use Rattle.std.proofs.Common.{◌≡◌, inl, inr, ◌⊎◌, refl, sym, ap, subst, ◌∙◌, ℕ, Bool, true, List, [], ◌∷◌, Option, None, Some, Ok}
use Rattle.std.proofs.Math.Path.{fun_ext}
use Rattle.std.specs.Prelude.{◌&&◌, nat_eq, is_some, option_map}
use Rattle.std.specs.List.{list_all}
use Rattle.std.proofs.lemmas.Bool.{eqb-true, eq-eqb}
use Rattle.ui_machine.specs.Definition.Kinds.{Kind, RegisterKind, Whole}
use Rattle.ui_machine.specs.Definition.Kinds as kinds
use Rattle.ui_machine.specs.Definition.Values.{Value}
use Rattle.ui_machine.specs.Definition.Values as values
use Rattle.ui_machine.specs.Definition.{Definition}
use Rattle.ui_machine.specs.Definition.Types.{GType}
use Rattle.ui_machine.specs.Definition.Places.{Place}
use Rattle.ui_machine.specs.State.Objects.{Object, living}
use Rattle.ui_machine.specs.State.Config.{World}
use Rattle.ui_machine.specs.Rules.Ancestry.{is_a}
use Rattle.ui_machine.specs.Rules.Transform.{same_whole, is_one, is_between, least, greatest, kind_fits}
use Rattle.ui_machine.specs.Rules.Sets.{has_kind}
use Rattle.ui_machine.specs.Rules.Programs.{is_number, fits_register, all_fit}
use Rattle.law_typing.specs.Rules.Answers.{Typing}
use Rattle.law_typing.specs.Rules.Answers as rules
use Rattle.law_typing.specs.Rules.RegisterKinds.{kind_in, class_at, class_of_plain, is_never_null, is_plain, is_at, is_at_or_null, is_of_class, covers, fits}
use Rattle.law_typing.specs.Rules.Typing.{class_of_operand}
use Rattle.ui_machine.specs.Outcome.{known}
use Rattle.law_typing.specs.Rules.Signatures.{parameters_fit}
use Rattle.law_typing.specs.Laws.WellRead.{TypesRead, is_set}
use Rattle.law_typing.specs.Graph.{number_for}
use Rattle.law_typing.specs.Good.Standing.{Standing, standing, class_by, covers_if, holds, lives_by}
use Rattle.law_typing.specs.Good.Objects.{ObjectsGood}
use Rattle.law_typing.proofs.Lists.{both_parts, either_part}
use Rattle.machine_laws.proofs.TypeProofs.{is_a_reflexive}
use Rattle.law_static.specs.Fits.{HoldsFits, HoldsLive, HoldsKind, HoldsSet, OperandGood, OperandsStand, ClassesAgree, GivenHold, GivenFit}
use Rattle.law_static.proofs.Same.{kind_same}

-- ** classes

pub one_further : (d : Definition) → TypesRead d → (t u : ℕ) (o : Option ℕ) → is_a d.types t u ≡ true → is_one d.types t o ≡ true → is_one d.types u o ≡ true
one_further d types t u None a e = absurd (cc)
one_further d types t u (Some c) a e = types.transitive c t u e a

-- the place of an object that a register covers
record Covered (d : Definition) (s : Standing) (k : RegisterKind) (v : Value) : Type 0 where
  pub id : ℕ
  pub place : ℕ
  pub names : v ≡ values.object (Some id)
  pub stands : s id ≡ Some place
  pub covered : covers d k place ≡ true

module _ (d : Definition) (s : Standing) where
  covered_at : (k : RegisterKind) (id : ℕ) (o : Option ℕ) → s id ≡ o → covers_if d k o ≡ true → Covered d s k (values.object (Some id))
  covered_at k id None e h = absurd (cc)
  covered_at k id (Some place) e h = record { id = id; place = place; names = refl; stands = e; covered = h }

  some_covered : (type : ℕ) (v : Value) → holds d s (kinds.some type) (Some v) ≡ true → Covered d s (kinds.some type) v
  some_covered type (values.object (Some id)) h = covered_at (kinds.some type) id (s id) refl h
  some_covered type (values.object None) h = absurd (cc)
  some_covered type (values.bool b) h = absurd (cc)
  some_covered type (values.whole k n) h = absurd (cc)
  some_covered type (values.text t) h = absurd (cc)
  some_covered type (values.enum t n) h = absurd (cc)
  some_covered type (values.flags t n) h = absurd (cc)

  at_covered : (place : ℕ) (v : Value) → holds d s (kinds.at place) (Some v) ≡ true → Covered d s (kinds.at place) v
  at_covered place (values.object (Some id)) h = covered_at (kinds.at place) id (s id) refl h
  at_covered place (values.object None) h = absurd (cc)
  at_covered place (values.bool b) h = absurd (cc)
  at_covered place (values.whole k n) h = absurd (cc)
  at_covered place (values.text t) h = absurd (cc)
  at_covered place (values.enum t n) h = absurd (cc)
  at_covered place (values.flags t n) h = absurd (cc)

  -- what a kind says of null
  abbrev Held : RegisterKind → Value → Type 0
  Held k v = (v ≡ values.object None) ⊎ Covered d s k v

  or_null_covered : (place : ℕ) (v : Value) → holds d s (kinds.at_or_null place) (Some v) ≡ true → Held (kinds.at place) v
  or_null_covered place (values.object (Some id)) h = inr (covered_at (kinds.at place) id (s id) refl h)
  or_null_covered place (values.object None) h = inl refl
  or_null_covered place (values.bool b) h = absurd (cc)
  or_null_covered place (values.whole k n) h = absurd (cc)
  or_null_covered place (values.text t) h = absurd (cc)
  or_null_covered place (values.enum t n) h = absurd (cc)
  or_null_covered place (values.flags t n) h = absurd (cc)

  -- a class of a plain kind of objects
  class_covered : (type id : ℕ) (o : Option ℕ) → s id ≡ o → is_one d.types type (number_for (class_at d) o) ≡ true → Covered d s (kinds.some type) (values.object (Some id))
  class_covered type id None e h = absurd (cc)
  class_covered type id (Some place) e h = record { id = id; place = place; names = refl; stands = e; covered = h }

  plain_covered : (type : ℕ) (v : Value) → holds d s (kinds.plain (kinds.object type)) (Some v) ≡ true → Held (kinds.some type) v
  plain_covered type (values.object (Some id)) h = inr (class_covered type id (s id) refl h)
  plain_covered type (values.object None) h = inl refl
  plain_covered type (values.bool b) h = absurd (cc)
  plain_covered type (values.whole k n) h = absurd (cc)
  plain_covered type (values.text t) h = absurd (cc)
  plain_covered type (values.enum t n) h = absurd (cc)
  plain_covered type (values.flags t n) h = absurd (cc)

  -- ** back to what is held

  some_held : (type : ℕ) (v : Value) → Covered d s (kinds.some type) v → holds d s (kinds.some type) (Some v) ≡ true
  some_held type v c =
      subst (λ v. holds d s (kinds.some type) (Some v) ≡ true) (sym c.names)
      (ap (covers_if d (kinds.some type)) c.stands ∙ c.covered)

  at_held : (place : ℕ) (v : Value) → Covered d s (kinds.at place) v → holds d s (kinds.at place) (Some v) ≡ true
  at_held place v c =
      subst (λ v. holds d s (kinds.at place) (Some v) ≡ true) (sym c.names) (ap (covers_if d (kinds.at place)) c.stands ∙ c.covered)

  or_null_held : (place : ℕ) (v : Value) → Held (kinds.at place) v → holds d s (kinds.at_or_null place) (Some v) ≡ true
  or_null_held place v (inl e) = subst (λ v. holds d s (kinds.at_or_null place) (Some v) ≡ true) (sym e) refl
  or_null_held place v (inr c) =
      subst (λ v. holds d s (kinds.at_or_null place) (Some v) ≡ true) (sym c.names) (ap (covers_if d (kinds.at place)) c.stands ∙ c.covered)

  plain_held : (type : ℕ) (v : Value) → Held (kinds.some type) v → holds d s (kinds.plain (kinds.object type)) (Some v) ≡ true
  plain_held type v (inl e) = subst (λ v. holds d s (kinds.plain (kinds.object type)) (Some v) ≡ true) (sym e) refl
  plain_held type v (inr c) =
      subst (λ v. holds d s (kinds.plain (kinds.object type)) (Some v) ≡ true) (sym c.names)
      (ap (λ o. is_one d.types type (number_for (class_at d) o)) c.stands ∙ c.covered)

  live_covered : (k : RegisterKind) (v : Value) → Covered d s k v → lives_by s v ≡ true
  live_covered k v c = subst (λ v. lives_by s v ≡ true) (sym c.names) (ap (λ (o : Option ℕ). is_some o) c.stands)

  live_held : (k : RegisterKind) (v : Value) → Held k v → lives_by s v ≡ true
  live_held k v (inl e) = subst (λ v. lives_by s v ≡ true) (sym e) refl
  live_held k v (inr c) = live_covered k v c

  plain_live : (kind : Kind) (v : Value) → holds d s (kinds.plain kind) (Some v) ≡ true → lives_by s v ≡ true
  plain_live kind (values.bool b) h = refl
  plain_live kind (values.whole k n) h = refl
  plain_live kind (values.text t) h = refl
  plain_live kind (values.enum t n) h = refl
  plain_live kind (values.flags t n) h = refl
  plain_live kind (values.object None) h = refl
  plain_live (kinds.object type) (values.object (Some id)) h = live_held (kinds.some type) (values.object (Some id)) (plain_covered type (values.object (Some id)) h)
  plain_live kinds.bool (values.object (Some id)) h = absurd (cc)
  plain_live (kinds.whole w) (values.object (Some id)) h = absurd (cc)
  plain_live kinds.text (values.object (Some id)) h = absurd (cc)
  plain_live (kinds.enum t) (values.object (Some id)) h = absurd (cc)
  plain_live (kinds.flags t) (values.object (Some id)) h = absurd (cc)

pub holds_live : HoldsLive
holds_live d s kinds.unset v h = h
holds_live d s (kinds.plain kind) v h = plain_live d s kind v h
holds_live d s (kinds.some type) v h = live_covered d s (kinds.some type) v (some_covered d s type v h)
holds_live d s (kinds.at place) v h = live_covered d s (kinds.at place) v (at_covered d s place v h)
holds_live d s (kinds.at_or_null place) v h = live_held d s (kinds.at place) v (or_null_covered d s place v h)

pub holds_set : HoldsSet
holds_set d s kinds.unset v set h = absurd (cc)
holds_set d s k (Some v) set h = (v, refl)
holds_set d s (kinds.plain kind) None set h = absurd (cc)
holds_set d s (kinds.some type) None set h = absurd (cc)
holds_set d s (kinds.at place) None set h = absurd (cc)
holds_set d s (kinds.at_or_null place) None set h = absurd (cc)

-- ** one kind for another

module _ (d : Definition) (types : TypesRead d) (s : Standing) where
  -- what covers by a place is of each class that the place's is
  of_place : (place type : ℕ) (v : Value) → is_one d.types type (class_at d place) ≡ true → Covered d s (kinds.at place) v → Covered d s (kinds.some type) v
  of_place place type v e c = record {
    id = c.id;
    place = c.place;
    names = c.names;
    stands = c.stands;
    covered = ap (λ p. is_one d.types type (class_at d p)) (sym (eqb-true place c.place c.covered)) ∙ e;
  }

  of_type : (t type : ℕ) (v : Value) → is_a d.types t type ≡ true → Covered d s (kinds.some t) v → Covered d s (kinds.some type) v
  of_type t type v e c = record {
    id = c.id;
    place = c.place;
    names = c.names;
    stands = c.stands;
    covered = one_further d types t type (class_at d c.place) e c.covered;
  }

  held_further : (a b : RegisterKind) (v : Value) → (Covered d s a v → Covered d s b v) → Held d s a v → Held d s b v
  held_further a b v f (inl e) = inl e
  held_further a b v f (inr c) = inr (f c)

  -- where a kind of objects is wanted
  to_object : (a : RegisterKind) (type : ℕ) (v : Value) → is_of_class d a (Some type) ≡ true → holds d s a (Some v) ≡ true →
      holds d s (kinds.plain (kinds.object type)) (Some v) ≡ true
  to_object kinds.unset type v e h = absurd (cc)
  to_object (kinds.plain kinds.bool) type v e h = absurd (cc)
  to_object (kinds.plain (kinds.whole w)) type v e h = absurd (cc)
  to_object (kinds.plain kinds.text) type v e h = absurd (cc)
  to_object (kinds.plain (kinds.enum t)) type v e h = absurd (cc)
  to_object (kinds.plain (kinds.flags t)) type v e h = absurd (cc)
  to_object (kinds.plain (kinds.object t)) type v e h =
      plain_held d s type v (held_further (kinds.some t) (kinds.some type) v (of_type t type v e) (plain_covered d s t v h))
  to_object (kinds.some t) type v e h = plain_held d s type v (inr (of_type t type v e (some_covered d s t v h)))
  to_object (kinds.at place) type v e h = plain_held d s type v (inr (of_place place type v e (at_covered d s place v h)))
  to_object (kinds.at_or_null place) type v e h =
      plain_held d s type v (held_further (kinds.at place) (kinds.some type) v (of_place place type v e) (or_null_covered d s place v h))

  to_plain : (a : RegisterKind) (kind : Kind) (v : Value) → fits d a (kinds.plain kind) ≡ true → holds d s a (Some v) ≡ true → holds d s (kinds.plain kind) (Some v) ≡ true
  to_plain a kind v e h = go (either_part (is_plain kind a) _ e)
    where
      itself : (a : RegisterKind) → is_plain kind a ≡ true → holds d s a (Some v) ≡ true → holds d s (kinds.plain kind) (Some v) ≡ true
      itself (kinds.plain k) p h = subst (λ k. holds d s (kinds.plain k) (Some v) ≡ true) (kind_same k kind p) h
      itself kinds.unset p h = absurd (cc)
      itself (kinds.some t) p h = absurd (cc)
      itself (kinds.at t) p h = absurd (cc)
      itself (kinds.at_or_null t) p h = absurd (cc)

      by_class : (kind : Kind) → is_of_class d a (class_of_plain kind) ≡ true → holds d s (kinds.plain kind) (Some v) ≡ true
      by_class (kinds.object type) p = to_object a type v p h
      by_class kinds.bool p = absurd (cc)
      by_class (kinds.whole w) p = absurd (cc)
      by_class kinds.text p = absurd (cc)
      by_class (kinds.enum t) p = absurd (cc)
      by_class (kinds.flags t) p = absurd (cc)

      go : (is_plain kind a ≡ true) ⊎ (is_of_class d a (class_of_plain kind) ≡ true) → holds d s (kinds.plain kind) (Some v) ≡ true
      go (inl p) = itself a p h
      go (inr p) = by_class kind p

  to_some : (a : RegisterKind) (type : ℕ) (v : Value) → is_never_null a ≡ true → is_of_class d a (Some type) ≡ true → holds d s a (Some v) ≡ true →
      holds d s (kinds.some type) (Some v) ≡ true
  to_some kinds.unset type v n e h = absurd (cc)
  to_some (kinds.plain k) type v n e h = absurd (cc)
  to_some (kinds.some t) type v n e h = some_held d s type v (of_type t type v e (some_covered d s t v h))
  to_some (kinds.at place) type v n e h = some_held d s type v (of_place place type v e (at_covered d s place v h))
  to_some (kinds.at_or_null place) type v n e h = absurd (cc)

  to_at : (a : RegisterKind) (place : ℕ) (v : Value) → is_at place a ≡ true → holds d s a (Some v) ≡ true → holds d s (kinds.at place) (Some v) ≡ true
  to_at (kinds.at c) place v e h = subst (λ p. holds d s (kinds.at p) (Some v) ≡ true) (eqb-true c place e) h
  to_at kinds.unset place v e h = absurd (cc)
  to_at (kinds.plain k) place v e h = absurd (cc)
  to_at (kinds.some t) place v e h = absurd (cc)
  to_at (kinds.at_or_null c) place v e h = absurd (cc)

  to_or_null : (a : RegisterKind) (place : ℕ) (v : Value) → (is_at place a ≡ true) ⊎ (is_at_or_null place a ≡ true) → holds d s a (Some v) ≡ true →
      holds d s (kinds.at_or_null place) (Some v) ≡ true
  to_or_null a place v (inl e) h = or_null_held d s place v (inr (at_covered d s place v (to_at a place v e h)))
  to_or_null (kinds.at_or_null c) place v (inr e) h = subst (λ p. holds d s (kinds.at_or_null p) (Some v) ≡ true) (eqb-true c place e) h
  to_or_null kinds.unset place v (inr e) h = absurd (cc)
  to_or_null (kinds.plain k) place v (inr e) h = absurd (cc)
  to_or_null (kinds.some t) place v (inr e) h = absurd (cc)
  to_or_null (kinds.at c) place v (inr e) h = absurd (cc)

  set_fits : (a b : RegisterKind) (v : Value) → fits d a b ≡ true → holds d s a (Some v) ≡ true → holds d s b (Some v) ≡ true
  set_fits a kinds.unset v e h = holds_live d s a v h
  set_fits a (kinds.plain kind) v e h = to_plain a kind v e h
  set_fits a (kinds.some type) v e h = let b = both_parts (is_never_null a) _ e in to_some a type v b.0 b.1 h
  set_fits a (kinds.at place) v e h = to_at a place v e h
  set_fits a (kinds.at_or_null place) v e h = to_or_null a place v (either_part (is_at place a) _ e) h

  none_fits : (a b : RegisterKind) → fits d a b ≡ true → holds d s a None ≡ true → holds d s b None ≡ true
  none_fits a kinds.unset e h = refl
  none_fits kinds.unset (kinds.plain kind) e h = absurd (no_class kind e)
    where
      no_class : (kind : Kind) → fits d kinds.unset (kinds.plain kind) ≡ true → ⊥
      no_class kinds.bool e = cc
      no_class (kinds.whole w) e = cc
      no_class kinds.text e = cc
      no_class (kinds.enum t) e = cc
      no_class (kinds.flags t) e = cc
      no_class (kinds.object t) e = cc
  none_fits kinds.unset (kinds.some type) e h = absurd (cc)
  none_fits kinds.unset (kinds.at place) e h = absurd (cc)
  none_fits kinds.unset (kinds.at_or_null place) e h = absurd (cc)
  none_fits (kinds.plain k) b e h = absurd (cc)
  none_fits (kinds.some t) b e h = absurd (cc)
  none_fits (kinds.at c) b e h = absurd (cc)
  none_fits (kinds.at_or_null c) b e h = absurd (cc)

pub holds_fits : HoldsFits
holds_fits d types s a b None e h = none_fits d types s a b e h
holds_fits d types s a b (Some v) e h = set_fits d types s a b v e h

-- a value that fits a kind is one of it
pub of_kind : (f : ℕ → Option ℕ) (types : List GType) (v : Value) (kind : Kind) → kind_fits f types v kind ≡ true → has_kind v kind ≡ true
of_kind f types (values.bool b) kinds.bool e = refl
of_kind f types (values.whole k n) (kinds.whole l) e = (both_parts (same_whole k l) (is_between (least l) (greatest l) n) e).0
of_kind f types (values.text t) kinds.text e = refl
of_kind f types (values.enum t n) (kinds.enum u) e = (both_parts (nat_eq t u) _ e).0
of_kind f types (values.flags t n) (kinds.flags u) e = (both_parts (nat_eq t u) _ e).0
of_kind f types (values.object None) (kinds.object t) e = refl
of_kind f types (values.object (Some id)) (kinds.object t) e = refl
of_kind f types _ _ e = absurd (cc)

pub holds_kind : HoldsKind
holds_kind d types s k kind v e h =
    let fits = to_plain d types s k kind v e h in
    (fits, of_kind (class_by d s) d.types v kind fits)

-- ** operands

operand_at : (d : Definition) (s : Standing) (k : RegisterKind) (class : ℕ) (v : Option Value) → class_of_operand d k ≡ Ok class → holds d s k v ≡ true → OperandGood d s k class v
operand_at d s kinds.unset class v e h = absurd (cc)
operand_at d s (kinds.plain kinds.bool) class v e h = absurd (cc)
operand_at d s (kinds.plain (kinds.whole w)) class v e h = absurd (cc)
operand_at d s (kinds.plain kinds.text) class v e h = absurd (cc)
operand_at d s (kinds.plain (kinds.enum t)) class v e h = absurd (cc)
operand_at d s (kinds.plain (kinds.flags t)) class v e h = absurd (cc)
operand_at d s (kinds.plain (kinds.object t)) class v e h = absurd (cc)
operand_at d s (kinds.some type) class None e h = absurd (cc)
operand_at d s (kinds.some type) class (Some v) e h = go (class_at d c.place) refl c.covered
  where
    c : Covered d s (kinds.some type) v
    c = some_covered d s type v h

    same : type ≡ class
    same = cc

    go : (o : Option ℕ) → class_at d c.place ≡ o → is_one d.types type o ≡ true → OperandGood d s (kinds.some type) class (Some v)
    go None f g = absurd (cc)
    go (Some own) f g = record {
      id = c.id;
      place = c.place;
      own = own;
      names = ap (λ (v : Value). Some v) c.names;
      stands = c.stands;
      covered = c.covered;
      of_class = f;
      is = subst (λ t. is_a d.types own t ≡ true) same g;
    }
operand_at d s (kinds.at place) class None e h = absurd (cc)
operand_at d s (kinds.at place) class (Some v) e h = go (class_at d place) refl e
  where
    c : Covered d s (kinds.at place) v
    c = at_covered d s place v h

    go : (o : Option ℕ) → class_at d place ≡ o → known rules.kind o ≡ Ok class → OperandGood d s (kinds.at place) class (Some v)
    go None f g = absurd (cc)
    go (Some own) f g = record {
      id = c.id;
      place = c.place;
      own = own;
      names = ap (λ (v : Value). Some v) c.names;
      stands = c.stands;
      covered = c.covered;
      of_class = ap (class_at d) (sym (eqb-true place c.place c.covered)) ∙ f;
      is = (let same : own ≡ class = cc in subst (λ t. is_a d.types own t ≡ true) same (is_a_reflexive d.types own));
    }
operand_at d s (kinds.at_or_null place) class v e h = absurd (cc)

pub operands_stand : OperandsStand
operands_stand d s ks register class v e h = operand_at d s (kind_in ks register) class v e h

-- ** what programs are given

pub given_hold : GivenHold
given_hold d types s [] [] [] all e = tt
given_hold d types s [] [] (p ∷ params) all e = absurd (cc)
given_hold d types s [] (k ∷ given) params all e = absurd all
given_hold d types s (v ∷ vs) [] params all e = absurd all
given_hold d types s (v ∷ vs) (k ∷ given) [] all e = absurd (cc)
given_hold d types s (v ∷ vs) (k ∷ given) (p ∷ params) all e =
    let b = both_parts (fits d k p) (parameters_fit d given params) e in
    (holds_fits d types s k p (Some v) b.0 all.0, given_hold d types s vs given params all.1 b.1)

pub classes_agree : ClassesAgree
classes_agree d w objects = fun_ext (λ id. at id (living w.objects id) refl)
  where
    at : (id : ℕ) (o : Option Object) → living w.objects id ≡ o →
        option_map (λ (o : Object). o.class) o ≡ number_for (class_at d) (option_map (λ (o : Object). o.place) o)
    at id None e = refl
    at id (Some o) e =
        let g = objects id o e in
        ap (λ (n : ℕ). Some n) g.class ∙ sym (ap (option_map (λ (p : Place). p.class)) g.is)

reversed : (a b : ℕ) → nat_eq a b ≡ true → nat_eq b a ≡ true
reversed a b e = eq-eqb b a (sym (eqb-true a b e))

module _ (d : Definition) (w : World) (objects : ObjectsGood d w) where
  fit_one : (v : Value) (k : RegisterKind) → is_set k ≡ true → holds d (standing w.objects) k (Some v) ≡ true → fits_register d w.objects v k ≡ true
  fit_one v kinds.unset set h = absurd (cc)
  fit_one v (kinds.plain kind) set h = subst (λ f. kind_fits f d.types v kind ≡ true) (sym (classes_agree d w objects)) h
  fit_one v (kinds.some type) set h =
      let c = some_covered d (standing w.objects) type v h in
      subst (λ v. fits_register d w.objects v (kinds.some type) ≡ true) (sym c.names)
      (ap (λ f. is_one d.types type (f c.id)) (classes_agree d w objects) ∙ (ap (λ o. is_one d.types type (number_for (class_at d) o)) c.stands ∙ c.covered))
  fit_one v (kinds.at place) set h =
      let c = at_covered d (standing w.objects) place v h in
      subst (λ v. fits_register d w.objects v (kinds.at place) ≡ true) (sym c.names) (ap (is_number place) c.stands ∙ reversed place c.place c.covered)
  fit_one v (kinds.at_or_null place) set h = null (or_null_covered d (standing w.objects) place v h)
    where
      null : Held d (standing w.objects) (kinds.at place) v → fits_register d w.objects v (kinds.at_or_null place) ≡ true
      null (inl e) = subst (λ v. fits_register d w.objects v (kinds.at_or_null place) ≡ true) (sym e) refl
      null (inr c) = subst (λ v. fits_register d w.objects v (kinds.at_or_null place) ≡ true) (sym c.names) (ap (is_number place) c.stands ∙ reversed place c.place c.covered)

both : (a b : Bool) → a ≡ true → b ≡ true → (a && b) ≡ true
both a b p q = ap (λ x. x && b) p ∙ q

pub given_fit : GivenFit
given_fit d w objects [] [] all set = refl
given_fit d w objects [] (k ∷ params) all set = absurd all
given_fit d w objects (v ∷ vs) [] all set = absurd all
given_fit d w objects (v ∷ vs) (k ∷ params) all set =
    let b = both_parts (is_set k) (list_all is_set params) set in
    both (fits_register d w.objects v k) (all_fit (fits_register d w.objects) vs params) (fit_one d w objects v k b.0 all.0) (given_fit d w objects vs params all.1 b.1)
