-- A new object: each other one keeps its place, and what was good stays good.
use Rattle.std.proofs.Common.{◌≡◌, inl, inr, ◌⊎◌, refl, sym, ap, subst, ◌∙◌, ℕ, zero, suc, ◌<◌, ◌≤◌, Bool, true, false, cond, List, [], ◌∷◌, ◌++◌, length, map, Option, None, Some, slice_get, arith}
use Rattle.std.specs.Prelude.{not, ◌&&◌, nat_eq, option_map}
use Rattle.std.proofs.lemmas.Bool.{eqb-true, eqb-false}
use Rattle.ui_machine.specs.Seq.{read, write, total}
use Rattle.ui_machine.specs.Definition.Kinds.{Kind}
use Rattle.ui_machine.specs.Definition.Kinds as kinds
use Rattle.ui_machine.specs.Definition.Values.{Value}
use Rattle.ui_machine.specs.Definition.Values as values
use Rattle.ui_machine.specs.Definition.Types.{GType}
use Rattle.ui_machine.specs.Definition.Properties.{Spec}
use Rattle.ui_machine.specs.Definition.{Definition}
use Rattle.ui_machine.specs.Definition.Places.{Place}
use Rattle.ui_machine.specs.Definition.Lookups.{place_at, specs_of, spec_of}
use Rattle.ui_machine.specs.State.Handlers.{Handler}
use Rattle.ui_machine.specs.State.Objects.{Object, Objects, living, live}
use Rattle.ui_machine.specs.State.Bindings.{Binding}
use Rattle.ui_machine.specs.State.Peers.{Peer, no_peer}
use Rattle.ui_machine.specs.State.Config.{World}
use Rattle.ui_machine.specs.State.References.{in_value}
use Rattle.ui_machine.specs.Rules.Programs.{place_in}
use Rattle.ui_machine.specs.Rules.Transform.{kind_fits, same_value}
use Rattle.ui_machine.specs.Rules.Validation.{clamp, is_valid}
use Rattle.ui_machine.specs.Rules.Construction.{nearest_shape, new_object, with_object, lent}
use Rattle.law_typing.specs.Graph.Channels.{Channel}
use Rattle.law_typing.specs.Graph.{Raised, graph, place_of_channel}
use Rattle.law_typing.specs.Graph.Tables.{of_program, greatest}
use Rattle.law_typing.specs.Graph.Depths.{depth_within}
use Rattle.law_typing.specs.Verdict.Accepted.{Each}
use Rattle.law_typing.specs.Laws.{IsIn}
use Rattle.law_typing.specs.Laws.WellRead.{no_class_of, no_two, TypesRead}
use Rattle.law_typing.specs.Good.Standing.{Standing, standing, class_by, Lives}
use Rattle.law_typing.specs.Good.Objects.{ValueGood, PeerGood, FamilyGood, ObjectGood}
use Rattle.law_typing.specs.Good.Handlers.{HandlerGood, runs_at, running_for, ChannelGood}
use Rattle.law_typing.proofs.Lists.{both_parts}
use Rattle.machine_laws.proofs.ClampProofs.{same_value_itself}
use Rattle.law_steps.specs.Kept.Agenda.{Stays, Keeps}
use Rattle.law_steps.specs.Kept.New.{next_identity, NewStands, ValuesStay, NewServes, TakesFree, NewObjectsGood, NewHandlersGood, NewBindingsGood}
use Rattle.law_steps.proofs.Kept.ServedProofs.{kind_kept}
use Rattle.law_steps.proofs.Kept.Left.{each_to}
use Rattle.law_steps.proofs.Kept.HandlersProofs.{handler_kept}
use Rattle.law_steps.proofs.Kept.BindingsProofs.{binding_kept}

-- ** one more object

-- what is at the end of a list that grows
grown : {A : Type 0} (none : A) (xs : List A) (x : A) (i : ℕ) → ((i < length xs) × (read none (xs ++ x ∷ []) i ≡ read none xs i)) ⊎ (((i ≡ length xs) × (read none (xs ++ x ∷ []) i ≡ x)) ⊎ ((length xs < i) × (read none (xs ++ x ∷ []) i ≡ none)))
grown none [] x zero = inr (inl (refl, refl))
grown none [] x (suc i) = inr (inr (omega arith, refl))
grown none (y ∷ ys) x zero = inl (omega arith, refl)
grown none (y ∷ ys) x (suc i) = go (grown none ys x i)
  where
    go : ((i < length ys) × (read none (ys ++ x ∷ []) i ≡ read none ys i)) ⊎ (((i ≡ length ys) × (read none (ys ++ x ∷ []) i ≡ x)) ⊎ ((length ys < i) × (read none (ys ++ x ∷ []) i ≡ none))) →
        ((suc i < length (y ∷ ys)) × (read none (ys ++ x ∷ []) i ≡ read none ys i)) ⊎ (((suc i ≡ length (y ∷ ys)) × (read none (ys ++ x ∷ []) i ≡ x)) ⊎ ((length (y ∷ ys) < suc i) × (read none (ys ++ x ∷ []) i ≡ none)))
    go (inl h) = inl ((let l = h.0 in omega (arith, l)), h.1)
    go (inr (inl h)) = inr (inl ((let l = h.0 in omega (arith, l)), h.1))
    go (inr (inr h)) = inr (inr ((let l = h.0 in omega (arith, l)), h.1))

pub past_end : {A : Type 0} (none : A) (xs : List A) (i : ℕ) → length xs ≤ i → read none xs i ≡ none
past_end none [] i h = refl
past_end none (x ∷ xs) zero h = absurd (omega (arith, h))
past_end none (x ∷ xs) (suc i) h = past_end none xs i (omega (arith, h))

-- what is found in them
pub found : (os : Objects) (o : Object) (id : ℕ) (x : Object) → living (os ++ Some o ∷ []) id ≡ Some x → (living os id ≡ Some x) ⊎ ((id ≡ suc (length os)) × (x ≡ o))
found os o zero x e = absurd (cc)
found os o (suc i) x e = go (grown None os (Some o) i)
  where
    go : ((i < length os) × (read None (os ++ Some o ∷ []) i ≡ read None os i)) ⊎ (((i ≡ length os) × (read None (os ++ Some o ∷ []) i ≡ Some o)) ⊎ ((length os < i) × (read None (os ++ Some o ∷ []) i ≡ None))) →
        (living os (suc i) ≡ Some x) ⊎ ((suc i ≡ suc (length os)) × (x ≡ o))
    go (inl h) = inl (sym h.1 ∙ e)
    go (inr (inl h)) = inr (ap suc h.0, (let f = sym e ∙ h.1 in cc))
    go (inr (inr h)) = absurd (let f = sym e ∙ h.1 in cc)

still : (os : Objects) (o : Object) (id : ℕ) (x : Object) → living os id ≡ Some x → living (os ++ Some o ∷ []) id ≡ Some x
still os o zero x e = absurd (cc)
still os o (suc i) x e = go (grown None os (Some o) i)
  where
    go : ((i < length os) × (read None (os ++ Some o ∷ []) i ≡ read None os i)) ⊎ (((i ≡ length os) × (read None (os ++ Some o ∷ []) i ≡ Some o)) ⊎ ((length os < i) × (read None (os ++ Some o ∷ []) i ≡ None))) →
        living (os ++ Some o ∷ []) (suc i) ≡ Some x
    go (inl h) = h.1 ∙ e
    go (inr (inl h)) = absurd (let n = past_end None os i (let l = h.0 in omega (arith, l)) in let f = sym n ∙ e in cc)
    go (inr (inr h)) = absurd (let n = past_end None os i (let l = h.0 in omega (arith, l)) in let f = sym n ∙ e in cc)

last_one : (os : Objects) (o : Object) → read None (os ++ Some o ∷ []) (length os) ≡ Some o
last_one [] o = refl
last_one (x ∷ os) o = last_one os o

one_alive : (os : Objects) (o : Object) → live (os ++ Some o ∷ []) ≡ suc (live os)
one_alive [] o = omega arith
one_alive (x ∷ os) o = let h = one_alive os o in omega (arith, h)

-- the object of a place
pub at_place : (os : Objects) (id place : ℕ) → place_in os id ≡ Some place → (o : Object) × (living os id ≡ Some o) × (o.place ≡ place)
at_place os id place e = go (living os id) refl e
  where
    go : (o : Option Object) → living os id ≡ o → option_map (λ (o : Object). o.place) o ≡ Some place → (o : Object) × (living os id ≡ Some o) × (o.place ≡ place)
    go None f g = absurd (cc)
    go (Some o) f g = (o, f, (let s : o.place ≡ place = cc in s))

pub new_stands : NewStands
new_stands d w o = (
  record {
    stay = λ id place is. (let old = at_place w.objects id place is in
        ap (option_map (λ (o : Object). o.place)) (still w.objects o id old.0 old.1) ∙ ap (λ (n : ℕ). Some n) old.2);
    none = ap (option_map (λ (o : Object). o.place)) (past_end None w.objects (length w.objects) (omega arith));
    here = ap (option_map (λ (o : Object). o.place)) (last_one w.objects o);
    others = λ id at is. (let x = at_place (w.objects ++ Some o ∷ []) id at is in go id at x.0 x.2 (found w.objects o id x.0 x.1));
  },
  one_alive w.objects o,
)
  where
    go : (id at : ℕ) (x : Object) → x.place ≡ at → (living w.objects id ≡ Some x) ⊎ ((id ≡ next_identity w) × (x ≡ o)) →
        (standing w.objects id ≡ Some at) ⊎ ((id ≡ next_identity w) × (at ≡ o.place))
    go id at x e (inl f) = inl (ap (option_map (λ (o : Object). o.place)) f ∙ ap (λ (n : ℕ). Some n) e)
    go id at x e (inr f) = inr (f.0, sym e ∙ ap (λ (x : Object). x.place) f.1)

-- ** values

both : (a b : Bool) → a ≡ true → b ≡ true → (a && b) ≡ true
both a b p q = ap (λ x. x && b) p ∙ q

module _ (d : Definition) (s z : Standing) where
  clamp_kept : (spec : Spec) (v : Value) → kind_fits (class_by d z) d.types v spec.kind ≡ true → same_value (clamp (class_by d s) d.types spec v) v ≡ true →
      same_value (clamp (class_by d z) d.types spec v) v ≡ true
  clamp_kept spec (values.object o) fits h =
      subst (λ b. same_value (cond b (values.object o) (values.object None)) (values.object o) ≡ true) (sym fits) (same_value_itself (values.object o))
  clamp_kept spec (values.bool b) fits h = h
  clamp_kept spec (values.whole k n) fits h = h
  clamp_kept spec (values.text t) fits h = h
  clamp_kept spec (values.enum t n) fits h = h
  clamp_kept spec (values.flags t n) fits h = h

  pub valid_kept : (spec : Spec) (v : Value) → Keeps s z (λ o. in_value o v) → is_valid (class_by d s) d.types spec v ≡ true → is_valid (class_by d z) d.types spec v ≡ true
  valid_kept spec v keeps h =
      let b = both_parts (kind_fits (class_by d s) d.types v spec.kind) (same_value (clamp (class_by d s) d.types spec v) v) h in
      let fits = kind_kept d s z v spec.kind keeps b.0 in
      both (kind_fits (class_by d z) d.types v spec.kind) (same_value (clamp (class_by d z) d.types spec v) v) fits (clamp_kept spec v fits b.1)

pub values_stay : ValuesStay
values_stay d s z spec v keeps g = record {
  value = v;
  is = refl;
  valid = valid_kept d s z spec v keeps (let same : g.value ≡ v = (let e = g.is in cc) in subst (λ v. is_valid (class_by d s) d.types spec v ≡ true) same g.valid);
}

value_stays : (d : Definition) (s z : Standing) (spec : Spec) (v : Option Value) → ((id : ℕ) → Stays s z id) → ValueGood d s spec v → ValueGood d z spec v
value_stays d s z spec v stay g = record { value = g.value; is = g.is; valid = valid_kept d s z spec g.value (λ id some. stay id) g.valid }

-- ** what serves

pub peer_write : (peers : List Peer) (number : ℕ) (q : Peer) (other : ℕ) (p : Peer) → slice_get peers other ≡ Some p → ((number ≡ other → ⊥) → slice_get (write no_peer peers number q) other ≡ Some p)
    × (number ≡ other → (slice_get (write no_peer peers number q) other ≡ Some q) × (read no_peer peers number ≡ p))
peer_write [] number q other p e = absurd (cc)
peer_write (x ∷ peers) zero q zero p e = (λ h. absurd (h refl), λ h. (refl, (let s : x ≡ p = cc in s)))
peer_write (x ∷ peers) zero q (suc other) p e = (λ h. e, λ h. absurd (omega (arith, h)))
peer_write (x ∷ peers) (suc number) q zero p e = (λ h. e, λ h. absurd (omega (arith, h)))
peer_write (x ∷ peers) (suc number) q (suc other) p e =
    let rest = peer_write peers number q other p e in (λ h. rest.0 (λ s. h (ap suc s)), λ h. rest.1 (omega (arith, h)))

lent_peer : (o : Option ℕ) (id : ℕ) (peers : List Peer) (number : ℕ) (p : Peer) → slice_get peers number ≡ Some p →
    (q : Peer) × (slice_get (lent o id peers) number ≡ Some q) × (q.state.shape ≡ p.state.shape)
lent_peer None id peers number p e = (p, e, refl)
lent_peer (Some n) id peers number p e = go (nat_eq n number) refl
  where
    new : Peer
    new = record (read no_peer peers n) { holder = Some id }

    go : (b : Bool) → nat_eq n number ≡ b → (q : Peer) × (slice_get (write no_peer peers n new) number ≡ Some q) × (q.state.shape ≡ p.state.shape)
    go true t = let h = (peer_write peers n new number p e).1 (eqb-true n number t) in (new, h.0, ap (λ (p : Peer). p.state.shape) h.1)
    go false t = (p, (peer_write peers n new number p e).0 (eqb-false n number t), refl)

pub new_serves : NewServes
new_serves d w o agenda =
    let new = (new_stands d w o).0 in
    record {
      stands = λ id some. new.stay id;
      held = λ place id is. new.stay id;
      builder = refl;
      last = omega arith;
      handlers = λ number low h is. (h, is, refl, refl, refl);
      bindings = λ number b is. is;
      sources = inr refl;
      peers = lent_peer o.peer (next_identity w) w.peers;
    }

-- ** objects

-- a default is valid wherever one looks
anywhere : (f : ℕ → Option ℕ) (types : List GType) (v : Value) (kind : Kind) → kind_fits no_class_of types v kind ≡ true → kind_fits f types v kind ≡ true
anywhere f types (values.object (Some id)) (kinds.object t) h = absurd (cc)
anywhere f types (values.object None) (kinds.object t) h = refl
anywhere f types (values.bool b) kinds.bool h = h
anywhere f types (values.whole k n) (kinds.whole l) h = h
anywhere f types (values.text t) kinds.text h = h
anywhere f types (values.enum t n) (kinds.enum u) h = h
anywhere f types (values.flags t n) (kinds.flags u) h = h
anywhere f types _ _ h = absurd (cc)

valid_anywhere : (f : ℕ → Option ℕ) (types : List GType) (spec : Spec) (v : Value) → is_valid no_class_of types spec v ≡ true → is_valid f types spec v ≡ true
valid_anywhere f types spec v h =
    let b = both_parts (kind_fits no_class_of types v spec.kind) (same_value (clamp no_class_of types spec v) v) h in
    let fits = anywhere f types v spec.kind b.0 in
    both (kind_fits f types v spec.kind) (same_value (clamp f types spec v) v) fits (at v fits b.1)
  where
    at : (v : Value) → kind_fits f types v spec.kind ≡ true → same_value (clamp no_class_of types spec v) v ≡ true → same_value (clamp f types spec v) v ≡ true
    at (values.object o) fits k =
        subst (λ b. same_value (cond b (values.object o) (values.object None)) (values.object o) ≡ true) (sym fits) (same_value_itself (values.object o))
    at (values.bool b) fits k = k
    at (values.whole w n) fits k = k
    at (values.text t) fits k = k
    at (values.enum t n) fits k = k
    at (values.flags t n) fits k = k

get_map : {A B : Type 0} (f : A → B) (xs : List A) (i : ℕ) (x : A) → slice_get xs i ≡ Some x → slice_get (map f xs) i ≡ Some (f x)
get_map f [] i x e = absurd (cc)
get_map {A} f (y ∷ ys) zero x e = let s : y ≡ x = cc in ap (λ (y : A). Some (f y)) s
get_map f (y ∷ ys) (suc i) x e = get_map f ys i x e

module _ (d : Definition) (types : TypesRead d) (w : World) (o : Object) where
  abbrev next : World
  next = with_object d w o

  -- the others
  family_stays : (id : ℕ) (above : Option ℕ) → FamilyGood w.objects id above → FamilyGood next.objects id above
  family_stays id None f = tt
  family_stays id (Some above) f = (f.0, still w.objects o above f.0 f.1, f.2)

  peer_stays : (id : ℕ) (x : Object) → TakesFree w o → PeerGood d w.peers id x → PeerGood d (lent o.peer (next_identity w) w.peers) id x
  peer_stays id x free g = by (nearest_shape d x.class) refl (lent_apart o.peer free)
    where
      Apart : Type 0
      Apart = (number : ℕ) (p : Peer) → slice_get w.peers number ≡ Some p → p.holder ≡ Some id → slice_get (lent o.peer (next_identity w) w.peers) number ≡ Some p

      lent_apart : (taken : Option ℕ) → ((number : ℕ) (p : Peer) → taken ≡ Some number → slice_get w.peers number ≡ Some p → p.holder ≡ None) →
          (number : ℕ) (p : Peer) → slice_get w.peers number ≡ Some p → p.holder ≡ Some id → slice_get (lent taken (next_identity w) w.peers) number ≡ Some p
      lent_apart None free number p is held = is
      lent_apart (Some n) free number p is held =
          (peer_write w.peers n (record (read no_peer w.peers n) { holder = Some (next_identity w) }) number p is).0
          (λ same. absurd (let h = free number p (ap (λ (n : ℕ). Some n) same) is in let f = sym h ∙ held in cc))

      by : (shape : Option ℕ) → nearest_shape d x.class ≡ shape → Apart → PeerGood d (lent o.peer (next_identity w) w.peers) id x
      by None e apart = rw e (rw e at g)
      by (Some shape) e apart = rw e (let h = rw e at g in (h.0, h.1, h.2, apart h.0 h.1 h.3 h.4, h.4, h.5, h.6))

  other_good : (id : ℕ) (x : Object) → TakesFree w o → ObjectGood d w (standing w.objects) id x → ObjectGood d next (standing next.objects) id x
  other_good id x free g =
      let new = (new_stands d w o).0 in
      record {
        place = g.place;
        is = g.is;
        class = g.class;
        values = λ slot spec is. value_stays d (standing w.objects) (standing next.objects) spec (slice_get x.values slot) new.stay (g.values slot spec is);
        children = each_to (Lives (standing w.objects)) (Lives (standing next.objects)) x.children
            (λ child lives. record { place = lives.place; is = new.stay child lives.place lives.is; allowed = tt }) g.children;
        parent = family_stays id x.parent g.parent;
        queue = g.queue;
        apart = g.apart;
        peer = peer_stays id x free g.peer;
      }

  -- the new one
  this_good : (place : ℕ) (p : Place) → place_at d place ≡ Some p → o ≡ new_object d place p o.peer →
      PeerGood d (lent o.peer (next_identity w) w.peers) (next_identity w) o → ObjectGood d next (standing next.objects) (next_identity w) o
  this_good place p is e peer = record {
    place = p;
    is = ap (λ (o : Object). place_at d o.place) e ∙ is;
    class = ap (λ (o : Object). o.class) e;
    values = λ slot spec has.
        (let own : spec_of d p.class slot ≡ Some spec = sym (ap (λ (o : Object). spec_of d o.class slot) e) ∙ has in record {
          value = spec.default;
          is = ap (λ (o : Object). slice_get o.values slot) e ∙ get_map (λ (s : Spec). s.default) (specs_of d p.class) slot spec own;
          valid = valid_anywhere (class_by d (standing next.objects)) d.types spec spec.default (types.specs p.class slot spec own).default;
        });
    children = subst (Each (Lives (standing next.objects))) (sym (ap (λ (o : Object). o.children) e)) tt;
    parent = subst (FamilyGood next.objects (next_identity w)) (sym (ap (λ (o : Object). o.parent) e)) tt;
    queue = subst (Each _) (sym (ap (λ (o : Object). o.queue) e)) tt;
    apart = ap (λ (o : Object). no_two nat_eq o.queue) e;
    peer = peer;
  }

pub new_objects_good : NewObjectsGood
new_objects_good d types w place p o is e free peer all id x there = go (found w.objects o id x there)
  where
    go : (living w.objects id ≡ Some x) ⊎ ((id ≡ next_identity w) × (x ≡ o)) → ObjectGood d (with_object d w o) (standing (with_object d w o).objects) id x
    go (inl f) = other_good d types w o id x free (all id x f)
    go (inr f) =
        subst (λ id. ObjectGood d (with_object d w o) (standing (with_object d w o).objects) id x) (sym f.0)
        (subst (ObjectGood d (with_object d w o) (standing (with_object d w o).objects) (next_identity w)) (sym f.1) (this_good d types w o place p is e peer))

-- ** handlers and bindings

module _ (d : Definition) (s : Standing) (new : ℕ) (none : s new ≡ None) where
  -- no handler is on an identity that no object has
  apart : (h : Handler) → HandlerGood d s h → nat_eq h.object new ≡ false
  apart h g = go (nat_eq h.object new) refl
    where
      go : (b : Bool) → nat_eq h.object new ≡ b → b ≡ false
      go true t = absurd (let same = eqb-true h.object new t in let e = sym (ap s same) ∙ g.at.is in let f = sym none ∙ e in cc)
      go false t = refl

  no_running : (by_code : Bool) (c : Channel) (hs : List Handler) → Each (HandlerGood d s) hs → running_for d by_code new c hs ≡ []
  no_running by_code c [] all = refl
  no_running by_code c (h ∷ hs) all =
      ap (λ b. cond b (h ∷ running_for d by_code new c hs) (running_for d by_code new c hs)) test ∙ no_running by_code c hs all.1
    where
      second : (a : Bool) → (a && false) ≡ false
      second true = refl
      second false = refl

      test : (cond by_code h.by_code (not h.by_code) && (nat_eq h.object new && runs_at d h c)) ≡ false
      test =
          ap (λ b. cond by_code h.by_code (not h.by_code) && (b && runs_at d h c)) (apart h all.0)
          ∙ second (cond by_code h.by_code (not h.by_code))

pub new_handlers_good : NewHandlersGood
new_handlers_good d costs depths s z new place last w agenda more due g = record {
  each = each_to (HandlerGood d s) (HandlerGood d z) w.handlers (λ h good. handler_kept d s z h (more.stay h.object) (λ id is. more.stay id) good) g.each;
  rising = g.rising;
  numbered = g.numbered;
  few = g.few;
  channels = λ id at is. go id at (more.others id at is);
}
  where
    in_it : (P : Raised → Type 0) (rs : List Raised) → ((r : Raised) → IsIn r rs → P r) → Each P rs
    in_it P [] f = tt
    in_it P (r ∷ rs) f = (f r (inl refl), in_it P rs (λ r h. f r (inr h)))

    fresh : (r : Raised) → IsIn r (graph d).raised → place_of_channel r.channel ≡ place → ChannelGood d costs depths agenda new w.handlers r
    fresh r there same =
        let own = no_running d s new more.none false r.channel w.handlers g.each in
        let connected = no_running d s new more.none true r.channel w.handlers g.each in
        record {
          own = (let low = due r there same in let zero = ap (total (λ (h : Handler). of_program costs h.program)) own in omega (arith, low, zero));
          connected = subst (Each (λ (h : Handler). of_program costs h.program ≤ greatest (of_program costs) r.connectable)) (sym connected) tt;
          own_shallow = subst (Each (λ (h : Handler). of_program depths h.program ≤ depth_within depths r)) (sym own) tt;
          connected_shallow = subst (Each (λ (h : Handler). of_program depths h.program ≤ depth_within depths r)) (sym connected) tt;
        }

    Goal : ℕ → ℕ → Type 0
    Goal id at = Each (λ (r : Raised). place_of_channel r.channel ≡ at → ChannelGood d costs depths agenda id w.handlers r) (graph d).raised

    go : (id at : ℕ) → (s id ≡ Some at) ⊎ ((id ≡ new) × (at ≡ place)) → Goal id at
    go id at (inl e) = g.channels id at e
    go id at (inr e) =
        subst (λ id. Goal id at) (sym e.0)
        (subst (Goal new) (sym e.1) (in_it (λ (r : Raised). place_of_channel r.channel ≡ place → ChannelGood d costs depths agenda new w.handlers r) (graph d).raised fresh))

pub new_bindings_good : NewBindingsGood
new_bindings_good d w o agenda g =
    let new = (new_stands d w o).0 in
    record {
      each =
          each_to _ _ w.bindings
          (λ (b : Binding) good. binding_kept d (standing w.objects) (standing (with_object d w o).objects) agenda b (new.stay b.source) (new.stay b.target) good)
          g.each;
      rising = g.rising;
      made = g.made;
    }
