-- A dispose: who is at which place afterwards, and what each object is.
use Rattle.std.proofs.Common.{◌≡◌, inl, inr, ◌⊎◌, refl, sym, ap, subst, ◌∙◌, ℕ, zero, suc, ◌+◌, Bool, true, false, cond, List, [], ◌∷◌, map, Option, None, Some, slice_get, arith}
use Rattle.std.specs.Prelude.{◌&&◌, nat_eq, option_map}
use Rattle.std.proofs.lemmas.Bool.{eqb-true, eqb-false}
use Rattle.ui_machine.specs.Seq.{read, write, total}
use Rattle.ui_machine.specs.Definition.Names.{same_name, place_from}
use Rattle.ui_machine.specs.Definition.Kinds.{Kind}
use Rattle.ui_machine.specs.Definition.Kinds as kinds
use Rattle.ui_machine.specs.Definition.Values.{Value}
use Rattle.ui_machine.specs.Definition.Values as values
use Rattle.ui_machine.specs.Definition.Types.{GType}
use Rattle.ui_machine.specs.Definition.Properties.{Spec}
use Rattle.ui_machine.specs.Definition.{Definition}
use Rattle.ui_machine.specs.Definition.Lookups.{specs_of, spec_of}
use Rattle.ui_machine.specs.State.Objects.{Object, Objects, living, put}
use Rattle.ui_machine.specs.State.Peers.{Peer, no_peer, peer_number}
use Rattle.ui_machine.specs.Rules.Programs.{place_in}
use Rattle.ui_machine.specs.Rules.Transform.{kind_fits, same_value}
use Rattle.ui_machine.specs.Rules.Validation.{clamp, is_valid}
use Rattle.ui_machine.specs.Rules.Disposal.{names_object, is_object, nulled, without_parent, orphans}
use Rattle.law_typing.specs.Laws.{IsIn}
use Rattle.law_typing.specs.Good.Standing.{Standing, class_by}
use Rattle.law_typing.specs.Good.Objects.{ValueGood}
use Rattle.law_typing.proofs.Lists.{both_parts}
use Rattle.law_steps.proofs.Kept.WriteProofs.{read_here, read_apart}

-- ** one object is changed

pub changed_here : (f : Object → Object) (i : ℕ) (os : Objects) → living (put os i (option_map f (living os i))) i ≡ option_map f (living os i)
changed_here f zero os = refl
changed_here f (suc i) os = read_here None os i (option_map f (read None os i))

pub put_apart : (x : Option Object) (i j : ℕ) (os : Objects) → (i ≡ j → ⊥) → living (put os i x) j ≡ living os j
put_apart x zero j os h = refl
put_apart x (suc i) zero os h = refl
put_apart x (suc i) (suc j) os h = read_apart None os i x j (λ e. h (ap suc e))

-- what was at an identity of which something is found in the end
pub record Was (f : Object → Object) (i j : ℕ) (os : Objects) (x : Object) : Type 0 where
  pub old : Object
  pub is : living os j ≡ Some old
  pub how : ((i ≡ j) × (x ≡ f old)) ⊎ ((i ≡ j → ⊥) × (x ≡ old))

pub was : (f : Object → Object) (i j : ℕ) (os : Objects) (x : Object) → living (put os i (option_map f (living os i))) j ≡ Some x → Was f i j os x
was f i j os x e = go (nat_eq i j) refl
  where
    here : i ≡ j → (o : Option Object) → living os i ≡ o → option_map f o ≡ Some x → Was f i j os x
    here same None is g = absurd (cc)
    here same (Some y) is g = record { old = y; is = ap (living os) (sym same) ∙ is; how = inl (same, (let h : f y ≡ x = cc in sym h)) }

    go : (b : Bool) → nat_eq i j ≡ b → Was f i j os x
    go true t =
        let same = eqb-true i j t in
        here same (living os i) refl (sym (changed_here f i os) ∙ (ap (living (put os i (option_map f (living os i)))) same ∙ e))
    go false t =
        let apart = eqb-false i j t in
        record { old = x; is = sym (put_apart (option_map f (living os i)) i j os apart) ∙ e; how = inr (apart, refl) }

place_of : Option Object → Option ℕ
place_of x = option_map (λ (o : Object). o.place) x

pub place_same : (f : Object → Object) → ((o : Object) → (f o).place ≡ o.place) → (i j : ℕ) (os : Objects) → place_in (put os i (option_map f (living os i))) j ≡ place_in os j
place_same f same i j os = go (nat_eq i j) refl
  where
    mapped : (o : Option Object) → option_map (λ (o : Object). o.place) (option_map f o) ≡ option_map (λ (o : Object). o.place) o
    mapped None = refl
    mapped (Some o) = ap (λ (n : ℕ). Some n) (same o)

    go : (b : Bool) → nat_eq i j ≡ b → place_in (put os i (option_map f (living os i))) j ≡ place_in os j
    go true t =
        let e = eqb-true i j t in
        subst (λ j. place_in (put os i (option_map f (living os i))) j ≡ place_in os j) e
        (ap (option_map (λ (o : Object). o.place)) (changed_here f i os) ∙ mapped (living os i))
    go false t = ap (option_map (λ (o : Object). o.place)) (put_apart (option_map f (living os i)) i j os (eqb-false i j t))

-- ** orphans

pub orphaned_was : (ids : List ℕ) (os : Objects) (j : ℕ) (x : Object) → living (orphans ids os) j ≡ Some x →
    (y : Object) × (living os j ≡ Some y) × ((x ≡ without_parent y) ⊎ ((x ≡ y) × (IsIn j ids → ⊥)))
orphaned_was [] os j x e = (x, e, inr (refl, λ h. h))
orphaned_was (i ∷ ids) os j x e =
    let later = orphaned_was ids (put os i (option_map without_parent (living os i))) j x e in
    of later.0 later.2 (was without_parent i j os later.0 later.1)
  where
    of : (y : Object) → (x ≡ without_parent y) ⊎ ((x ≡ y) × (IsIn j ids → ⊥)) → Was without_parent i j os y →
        (y : Object) × (living os j ≡ Some y) × ((x ≡ without_parent y) ⊎ ((x ≡ y) × (IsIn j (i ∷ ids) → ⊥)))
    of y how w = (w.old, w.is, by how w.how)
      where
        not_in : (i ≡ j → ⊥) → (IsIn j ids → ⊥) → IsIn j (i ∷ ids) → ⊥
        not_in apart none (inl e) = apart (sym e)
        not_in apart none (inr h) = none h

        by : (x ≡ without_parent y) ⊎ ((x ≡ y) × (IsIn j ids → ⊥)) → ((i ≡ j) × (y ≡ without_parent w.old)) ⊎ ((i ≡ j → ⊥) × (y ≡ w.old)) →
            (x ≡ without_parent w.old) ⊎ ((x ≡ w.old) × (IsIn j (i ∷ ids) → ⊥))
        by (inl a) (inl b) = inl (a ∙ ap without_parent b.1)
        by (inl a) (inr b) = inl (a ∙ ap without_parent b.1)
        by (inr a) (inl b) = inl (a.0 ∙ b.1)
        by (inr a) (inr b) = inr (a.0 ∙ b.1, not_in b.0 a.1)

pub orphaned_place : (ids : List ℕ) (os : Objects) (j : ℕ) → place_in (orphans ids os) j ≡ place_in os j
orphaned_place [] os j = refl
orphaned_place (i ∷ ids) os j = orphaned_place ids (put os i (option_map without_parent (living os i))) j ∙ place_same without_parent (λ o. refl) i j os

-- ** values that are nulled

pub nulled_at : (test : Spec → Value → Bool) (specs : List Spec) (vs : List Value) (slot : ℕ) (s : Spec) (v : Value) → slice_get specs slot ≡ Some s → slice_get vs slot ≡ Some v →
    slice_get (nulled test specs vs) slot ≡ Some (cond (test s v) (values.object None) v)
nulled_at test [] vs slot s v e f = absurd (cc)
nulled_at test (x ∷ specs) [] slot s v e f = absurd (cc)
nulled_at test (x ∷ specs) (y ∷ vs) zero s v e f =
    let a : x ≡ s = cc in
    let b : y ≡ v = cc in
    ap (λ x. Some (cond (test x y) (values.object None) y)) a ∙ ap (λ y. Some (cond (test s y) (values.object None) y)) b
nulled_at test (x ∷ specs) (y ∷ vs) (suc slot) s v e f = nulled_at test specs vs slot s v e f

-- null is valid where an object is
null_valid : (f : ℕ → Option ℕ) (types : List GType) (spec : Spec) (v : Value) → is_object v ≡ true → is_valid f types spec v ≡ true → is_valid f types spec (values.object None) ≡ true
null_valid f types spec (values.object i) object valid = go spec.kind refl (both_parts (kind_fits f types (values.object i) spec.kind) _ valid).0
  where
    either : (b : Bool) → same_value (cond b (values.object None) (values.object None)) (values.object None) ≡ true
    either true = refl
    either false = refl

    none_fits : (i : Option ℕ) (k : Kind) → kind_fits f types (values.object i) k ≡ true → kind_fits f types (values.object None) k ≡ true
    none_fits None k h = h
    none_fits (Some i) (kinds.object t) h = refl
    none_fits (Some i) kinds.bool h = absurd (cc)
    none_fits (Some i) (kinds.whole w) h = absurd (cc)
    none_fits (Some i) kinds.text h = absurd (cc)
    none_fits (Some i) (kinds.enum t) h = absurd (cc)
    none_fits (Some i) (kinds.flags t) h = absurd (cc)

    go : (k : Kind) → spec.kind ≡ k → kind_fits f types (values.object i) spec.kind ≡ true → is_valid f types spec (values.object None) ≡ true
    go k e h =
        ap (λ b. b && same_value (clamp f types spec (values.object None)) (values.object None)) (none_fits i spec.kind h)
        ∙ either (kind_fits f types (values.object None) spec.kind)
null_valid f types spec (values.bool b) object valid = absurd (cc)
null_valid f types spec (values.whole k n) object valid = absurd (cc)
null_valid f types spec (values.text t) object valid = absurd (cc)
null_valid f types spec (values.enum t n) object valid = absurd (cc)
null_valid f types spec (values.flags t n) object valid = absurd (cc)

named_is_object : (id : ℕ) (v : Value) → names_object id v ≡ true → is_object v ≡ true
named_is_object id (values.object i) e = refl
named_is_object id (values.bool b) e = absurd (cc)
named_is_object id (values.whole k n) e = absurd (cc)
named_is_object id (values.text t) e = absurd (cc)
named_is_object id (values.enum t n) e = absurd (cc)
named_is_object id (values.flags t n) e = absurd (cc)

module _ (d : Definition) (s : Standing) (class : ℕ) (test : Spec → Value → Bool) (objects : (x : Spec) (v : Value) → test x v ≡ true → is_object v ≡ true) where
  pub nulled_good : (vs : List Value) (slot : ℕ) (spec : Spec) → spec_of d class slot ≡ Some spec → ValueGood d s spec (slice_get vs slot) →
      ValueGood d s spec (slice_get (nulled test (specs_of d class) vs) slot)
  nulled_good vs slot spec has g = record {
    value = cond (test spec g.value) (values.object None) g.value;
    is = nulled_at test (specs_of d class) vs slot spec g.value has g.is;
    valid = go (test spec g.value) refl;
  }
    where
      go : (b : Bool) → test spec g.value ≡ b → is_valid (class_by d s) d.types spec (cond b (values.object None) g.value) ≡ true
      go true e = null_valid (class_by d s) d.types spec g.value (objects spec g.value e) g.valid
      go false e = g.valid

pub forgotten : (id : ℕ) (s : Spec) (v : Value) → cond s.weak (names_object id v) false ≡ true → is_object v ≡ true
forgotten id s v e = go s.weak e
  where
    go : (b : Bool) → cond b (names_object id v) false ≡ true → is_object v ≡ true
    go true e = named_is_object id v e
    go false e = absurd (cc)

pub let_go : (s : Spec) (v : Value) → cond s.weak false (is_object v) ≡ true → is_object v ≡ true
let_go s v e = go s.weak e
  where
    go : (b : Bool) → cond b false (is_object v) ≡ true → is_object v ≡ true
    go true e = absurd (cc)
    go false e = e

-- a weak property that was forgotten does not name the object
pub not_named : (id : ℕ) (v : Value) → names_object id (cond (names_object id v) (values.object None) v) ≡ false
not_named id v = go (names_object id v) refl
  where
    go : (b : Bool) → names_object id v ≡ b → names_object id (cond b (values.object None) v) ≡ false
    go true e = refl
    go false e = e

-- ** sums over objects

module _ (f : Option Object → ℕ) (none : f None ≡ 0) where
  sum_written : (x : Option Object) (os : Objects) (i : ℕ) → total f (write None os i x) + f (read None os i) ≡ total f os + f x
  sum_written x [] zero = omega (arith, none)
  sum_written x [] (suc i) = let h = sum_written x [] i in omega (arith, none, h)
  sum_written x (y ∷ os) zero = omega arith
  sum_written x (y ∷ os) (suc i) = let h = sum_written x os i in omega (arith, h)

  -- one that is put in place of another
  pub sum_put : (x : Option Object) (os : Objects) (i : ℕ) → total f (put os (suc i) x) + f (living os (suc i)) ≡ total f os + f x
  sum_put x os i = sum_written x os i

  module _ (change : Object → Object) (same : (o : Object) → f (Some (change o)) ≡ f (Some o)) where
    mapped_same : (o : Option Object) → f (option_map change o) ≡ f o
    mapped_same None = refl
    mapped_same (Some o) = same o

    pub sum_changed : (os : Objects) (i : ℕ) → total f (put os i (option_map change (living os i))) ≡ total f os
    sum_changed os zero = refl
    sum_changed os (suc i) = let h = sum_written (option_map change (read None os i)) os i in let e = mapped_same (read None os i) in omega (arith, h, e)

    pub sum_mapped : (os : Objects) → total f (map (option_map change) os) ≡ total f os
    sum_mapped [] = refl
    sum_mapped (x ∷ os) = let h = sum_mapped os in let e = mapped_same x in omega (arith, h, e)

  pub sum_orphaned : ((o : Object) → f (Some (without_parent o)) ≡ f (Some o)) → (ids : List ℕ) (os : Objects) → total f (orphans ids os) ≡ total f os
  sum_orphaned same [] os = refl
  sum_orphaned same (i ∷ ids) os = sum_orphaned same ids (put os i (option_map without_parent (living os i))) ∙ sum_changed without_parent same os i

-- ** names of peers

named_from : (i : ℕ) (peers : List Peer) (n : ℕ) (q p : Peer) (name : List ℕ) → slice_get peers n ≡ Some p → q.name ≡ p.name →
    place_from (λ (p : Peer). p.name) i (write no_peer peers n q) name ≡ place_from (λ (p : Peer). p.name) i peers name
named_from i [] n q p name e same = absurd (cc)
named_from i (x ∷ peers) zero q p name e same =
    let s : p.name ≡ x.name = ap (λ (p : Peer). p.name) (let h : p ≡ x = cc in h) in
    ap (λ own. cond (same_name own name) (Some i) (place_from (λ (p : Peer). p.name) (suc i) peers name)) (same ∙ s)
named_from i (x ∷ peers) (suc n) q p name e same =
    ap (λ rest. cond (same_name x.name name) (Some i) rest) (named_from (suc i) peers n q p name e same)

pub names_written : (peers : List Peer) (n : ℕ) (q p : Peer) (name : List ℕ) → slice_get peers n ≡ Some p → q.name ≡ p.name →
    peer_number (write no_peer peers n q) name ≡ peer_number peers name
names_written peers n q p name e same = named_from 0 peers n q p name e same
