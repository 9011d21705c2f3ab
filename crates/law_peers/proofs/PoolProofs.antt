-- A pool that matches is ready, and back.
use Rattle.std.proofs.Common.{◌≡◌, inl, inr, refl, sym, ap, subst, ◌∙◌, ℕ, suc, Bool, true, false, cond, List, [], ◌∷◌, ◌++◌, map, Option, None, Some, slice_get}
use Rattle.std.specs.Prelude.{◌&&◌, nat_eq, not, option_map}
use Rattle.std.specs.List.{filter, flat_map}
use Rattle.std.proofs.lemmas.Bool.{eqb-true, eq-eqb}
use Rattle.ui_machine.specs.Definition.Names.{same_name}
use Rattle.ui_machine.specs.Definition.Kinds.{Whole, Kind}
use Rattle.ui_machine.specs.Definition.Kinds as kinds
use Rattle.ui_machine.specs.Rules.Transform.{same_whole, same_kind}
use Rattle.ui_machine.specs.Definition.{Definition}
use Rattle.ui_machine.specs.Definition.Signals.{Method, Shape}
use Rattle.ui_machine.specs.Definition.Places.{Place}
use Rattle.ui_machine.specs.Definition.Lookups.{place_at}
use Rattle.ui_machine.specs.State.Peers.{Peer, peer_number}
use Rattle.ui_machine.specs.Rules.Construction.{nearest_shape}
use Rattle.ui_machine.specs.Words.{method}
use Rattle.law_typing.specs.Verdict.Accepted.{Each}
use Rattle.law_typing.specs.Laws.{IsIn}
use Rattle.law_typing.specs.Laws.StepsKeepGood.{PeerReady}
use Rattle.law_typing.proofs.Lists.{both_parts, filter_in, each_in, each_append, each_flat}
use Rattle.law_static.proofs.SubclassProofs.{get_in}
use Rattle.law_peers.specs.Needs.{Need, methods_in, needs_at, prototypes, objects, needs_of, same_kinds, same_method, same_shape, is_shaped, Mismatch, closed, misshapen, unused, peer_named, wrong_with, or_else, first_wrong, is_needed, first_unused}
use Rattle.law_peers.specs.MatchedPools.{AllFree, MatchedIsReady, ReadyMatches}

-- ** shapes that are one

pub name_true : (xs ys : List ℕ) → same_name xs ys ≡ true → xs ≡ ys
name_true [] [] e = refl
name_true [] (y ∷ ys) e = absurd (cc)
name_true (x ∷ xs) [] e = absurd (cc)
name_true (x ∷ xs) (y ∷ ys) e = go (nat_eq x y) refl e (name_true xs ys)
  where
    go : (b : Bool) → nat_eq x y ≡ b → cond b (same_name xs ys) false ≡ true → (same_name xs ys ≡ true → xs ≡ ys) → (x ∷ xs) ≡ (y ∷ ys)
    go true h e later = let s = eqb-true x y h in let t = later e in rw (s, t) refl
    go false h e later = absurd (cc)

pub name_refl : (xs : List ℕ) → same_name xs xs ≡ true
name_refl [] = refl
name_refl (x ∷ xs) = ap (λ b. cond b (same_name xs xs) false) (eq-eqb x x refl) ∙ name_refl xs

whole_true : (k l : Whole) → same_whole k l ≡ true → k ≡ l
whole_true kinds.int kinds.int e = refl
whole_true kinds.uint kinds.uint e = refl
whole_true kinds.int64 kinds.int64 e = refl
whole_true kinds.uint64 kinds.uint64 e = refl
whole_true k l e = absurd (cc)

whole_refl : (k : Whole) → same_whole k k ≡ true
whole_refl kinds.int = refl
whole_refl kinds.uint = refl
whole_refl kinds.int64 = refl
whole_refl kinds.uint64 = refl

kind_true : (k l : Kind) → same_kind k l ≡ true → k ≡ l
kind_true kinds.bool kinds.bool e = refl
kind_true (kinds.whole k) (kinds.whole l) e = ap kinds.whole (whole_true k l e)
kind_true kinds.text kinds.text e = refl
kind_true (kinds.enum t) (kinds.enum u) e = ap kinds.enum (eqb-true t u e)
kind_true (kinds.flags t) (kinds.flags u) e = ap kinds.flags (eqb-true t u e)
kind_true (kinds.object t) (kinds.object u) e = ap kinds.object (eqb-true t u e)
kind_true k l e = absurd (cc)

kind_refl : (k : Kind) → same_kind k k ≡ true
kind_refl kinds.bool = refl
kind_refl (kinds.whole k) = whole_refl k
kind_refl kinds.text = refl
kind_refl (kinds.enum t) = eq-eqb t t refl
kind_refl (kinds.flags t) = eq-eqb t t refl
kind_refl (kinds.object t) = eq-eqb t t refl

kinds_true : (ks ls : List Kind) → same_kinds ks ls ≡ true → ks ≡ ls
kinds_true [] [] e = refl
kinds_true [] (l ∷ ls) e = absurd (cc)
kinds_true (k ∷ ks) [] e = absurd (cc)
kinds_true (k ∷ ks) (l ∷ ls) e =
    let both = both_parts (same_kind k l) (same_kinds ks ls) e in
    let s = kind_true k l both.0 in
    let t = kinds_true ks ls both.1 in
    rw (s, t) refl

both_true : (a b : Bool) → a ≡ true → b ≡ true → (a && b) ≡ true
both_true a b p q = ap (λ x. x && b) p ∙ q

kinds_refl : (ks : List Kind) → same_kinds ks ks ≡ true
kinds_refl [] = refl
kinds_refl (k ∷ ks) = both_true (same_kind k k) (same_kinds ks ks) (kind_refl k) (kinds_refl ks)

one_method : (a b : List ℕ) (ks ls : List Kind) (k l : Kind) → a ≡ b → ks ≡ ls → k ≡ l → method a ks k ≡ method b ls l
one_method a b ks ls k l s t u = rw (s, t, u) refl

method_true : (m n : Method) → same_method m n ≡ true → m ≡ n
method_true m n e =
    let name = both_parts (same_name m.name n.name) (same_kinds m.params n.params && same_kind m.result n.result) e in
    let rest = both_parts (same_kinds m.params n.params) (same_kind m.result n.result) name.1 in
    one_method m.name n.name m.params n.params m.result n.result (name_true m.name n.name name.0) (kinds_true m.params n.params rest.0) (kind_true m.result n.result rest.1)

method_refl : (m : Method) → same_method m m ≡ true
method_refl m = both_true (same_name m.name m.name) _ (name_refl m.name) (both_true (same_kinds m.params m.params) _ (kinds_refl m.params) (kind_refl m.result))

shape_true : (ms ns : List Method) → same_shape ms ns ≡ true → ms ≡ ns
shape_true [] [] e = refl
shape_true [] (n ∷ ns) e = absurd (cc)
shape_true (m ∷ ms) [] e = absurd (cc)
shape_true (m ∷ ms) (n ∷ ns) e =
    let both = both_parts (same_method m n) (same_shape ms ns) e in
    let s = method_true m n both.0 in
    let t = shape_true ms ns both.1 in
    rw (s, t) refl

shape_refl : (ms : List Method) → same_shape ms ms ≡ true
shape_refl [] = refl
shape_refl (m ∷ ms) = both_true (same_method m m) (same_shape ms ms) (method_refl m) (shape_refl ms)

-- ** lists

-- the peer of a need is as it should be
abbrev Right : List Peer → Need → Type 0
Right pool n = wrong_with n (peer_named pool n.name) ≡ None

pub neither : (a b : Option Mismatch) → or_else a b ≡ None → (a ≡ None) × (b ≡ None)
neither None b e = (refl, e)
neither (Some m) b e = absurd (cc)

all_right : (pool : List Peer) (needs : List Need) → first_wrong pool needs ≡ None → Each (Right pool) needs
all_right pool [] e = tt
all_right pool (n ∷ needs) e =
    let both = neither (wrong_with n (peer_named pool n.name)) (first_wrong pool needs) e in
    (both.0, all_right pool needs both.1)

none_wrong : (pool : List Peer) (needs : List Need) → Each (Right pool) needs → first_wrong pool needs ≡ None
none_wrong pool [] all = refl
none_wrong pool (n ∷ needs) all = ap (λ m. or_else m (first_wrong pool needs)) all.0 ∙ none_wrong pool needs all.1

none_unused : (needs : List Need) (pool : List Peer) → Each (λ p. is_needed needs p ≡ true) pool → first_unused needs pool ≡ None
none_unused needs [] all = refl
none_unused needs (p ∷ pool) all = ap (λ b. cond b (first_unused needs pool) (Some (unused p.name))) all.0 ∙ none_unused needs pool all.1

each_split : {A : Type 0} (P : A → Type 0) (xs ys : List A) → Each P (xs ++ ys) → Each P xs × Each P ys
each_split P [] ys all = (tt, all)
each_split P (x ∷ xs) ys all = let both = each_split P xs ys all.1 in ((all.0, both.0), both.1)

each_of : {A B : Type 0} (P : B → Type 0) (f : A → List B) (xs : List A) (x : A) → Each P (flat_map f xs) → IsIn x xs → Each P (f x)
each_of P f [] x all h = absurd h
each_of P f (y ∷ ys) x all (inl e) = subst (λ z. Each P (f z)) (sym e) (each_split P (f y) (flat_map f ys) all).0
each_of P f (y ∷ ys) x all (inr h) = each_of P f ys x (each_split P (f y) (flat_map f ys) all).1 h

-- what holds of each need holds of those of each place
of_place : (d : Definition) (P : Need → Type 0) (number : ℕ) (p : Place) → place_at d number ≡ Some p → Each P (needs_of d) → Each P (needs_at d p)
of_place d P number p is all = go p.is_prototype refl
  where
    both : Each P (flat_map (needs_at d) (prototypes d)) × Each P (flat_map (needs_at d) (objects d))
    both = each_split P (flat_map (needs_at d) (prototypes d)) (flat_map (needs_at d) (objects d)) all

    there : IsIn p d.places
    there = get_in d.places number p is

    go : (b : Bool) → p.is_prototype ≡ b → Each P (needs_at d p)
    go true e = each_of P (needs_at d) (prototypes d) p both.0 (filter_in (λ (p : Place). p.is_prototype) d.places p e there)
    go false e = each_of P (needs_at d) (objects d) p both.1 (filter_in (λ (p : Place). not p.is_prototype) d.places p (ap not e) there)

-- ** a pool that matches

-- what is known of a peer that is right
record IsRight (pool : List Peer) (name : List ℕ) (methods : Option (List Method)) : Type 0 where
  pub number : ℕ
  pub peer : Peer
  pub is : peer_number pool name ≡ Some number
  pub has : slice_get pool number ≡ Some peer
  pub is_open : peer.state.is_open ≡ true
  pub shaped : is_shaped methods peer.state.shape ≡ true

module _ (pool : List Peer) (name : List ℕ) (methods : Option (List Method)) where
  abbrev need : Need
  need = record { name = name; methods = methods }

  at_number : (number : ℕ) (o : Option Peer) → peer_number pool name ≡ Some number → slice_get pool number ≡ o → wrong_with need o ≡ None → IsRight pool name methods
  at_number number None is has e = absurd (cc)
  at_number number (Some p) is has e = go p.state.is_open (is_shaped methods p.state.shape) refl refl e
    where
      go : (a b : Bool) → p.state.is_open ≡ a → is_shaped methods p.state.shape ≡ b → cond a (cond b None (Some (misshapen name))) (Some (closed name)) ≡ None → IsRight pool name methods
      go true true f h e = record { number = number; peer = p; is = is; has = has; is_open = f; shaped = h }
      go true false f h e = absurd (cc)
      go false b f h e = absurd (cc)

  is_right : Right pool need → IsRight pool name methods
  is_right e = go (peer_number pool name) refl e
    where
      at : Option ℕ → Option Peer
      at None = None
      at (Some number) = slice_get pool number

      go : (o : Option ℕ) → peer_number pool name ≡ o → wrong_with need (at o) ≡ None → IsRight pool name methods
      go None is e = absurd (cc)
      go (Some number) is e = at_number number (slice_get pool number) is refl e

module _ (d : Definition) (pool : List Peer) (p : Place) (free : AllFree pool) (name : List ℕ) where
  with_methods : (shape : ℕ) (o : Option Shape) → nearest_shape d p.class ≡ Some shape → slice_get d.shapes shape ≡ o →
      IsRight pool name (option_map (λ (s : Shape). s.methods) o) → PeerReady d pool p name
  with_methods shape None of_class has r = absurd (let h = r.shaped in cc)
  with_methods shape (Some s) of_class has r = record {
    number = r.number;
    peer = r.peer;
    shape = shape;
    methods = s;
    is = r.is;
    has = r.has;
    of_class = of_class;
    shaped = (has, sym (shape_true s.methods r.peer.state.shape r.shaped));
    is_open = r.is_open;
    free = each_in (λ (p : Peer). p.holder ≡ None) pool free r.peer (get_in pool r.number r.peer r.has);
  }

  with_shape : (o : Option ℕ) → nearest_shape d p.class ≡ o → IsRight pool name (methods_in d o) → PeerReady d pool p name
  with_shape None of_class r = absurd (let h = r.shaped in cc)
  with_shape (Some shape) of_class r = with_methods shape (slice_get d.shapes shape) of_class refl r

  peer_ready : Right pool (record { name = name; methods = methods_in d (nearest_shape d p.class) }) → PeerReady d pool p name
  peer_ready e = with_shape (nearest_shape d p.class) refl (is_right pool name (methods_in d (nearest_shape d p.class)) e)

names_ready : (d : Definition) (pool : List Peer) (p : Place) → AllFree pool → (names : List (List ℕ)) →
    Each (Right pool) (map (λ name. record { name = name; methods = methods_in d (nearest_shape d p.class) }) names) → Each (PeerReady d pool p) names
names_ready d pool p free [] all = tt
names_ready d pool p free (name ∷ names) all = (peer_ready d pool p free name all.0, names_ready d pool p free names all.1)

pub matched_is_ready : MatchedIsReady
matched_is_ready d pool e free number p is =
    let both = neither (first_wrong pool (needs_of d)) (first_unused (needs_of d) pool) e in
    names_ready d pool p free p.peers (of_place d (Right pool) number p is (all_right pool (needs_of d) both.0))

-- ** a pool that is ready

module _ (d : Definition) (pool : List Peer) (p : Place) where
  peer_right : (name : List ℕ) → PeerReady d pool p name → Right pool (record { name = name; methods = methods_in d (nearest_shape d p.class) })
  peer_right name r =
      let methods : methods_in d (nearest_shape d p.class) ≡ Some r.methods.methods =
      ap (methods_in d) r.of_class ∙ ap (option_map (λ (s : Shape). s.methods)) r.shaped.0 in
      let found : peer_named pool name ≡ Some r.peer = found_at (peer_number pool name) r.is ∙ r.has in
      let shaped : is_shaped (methods_in d (nearest_shape d p.class)) r.peer.state.shape ≡ true =
      ap (λ ms. is_shaped ms r.peer.state.shape) methods ∙ (ap (same_shape r.methods.methods) r.shaped.1 ∙ shape_refl r.methods.methods) in
      ap (wrong_with (record { name = name; methods = methods_in d (nearest_shape d p.class) })) found
      ∙ (ap (λ b. cond b (cond (is_shaped (methods_in d (nearest_shape d p.class)) r.peer.state.shape) None (Some (misshapen name))) (Some (closed name))) r.is_open
      ∙ ap (λ b. cond b None (Some (misshapen name))) shaped)
    where
      at : Option ℕ → Option Peer
      at None = None
      at (Some number) = slice_get pool number

      found_at : (o : Option ℕ) → o ≡ Some r.number → at o ≡ slice_get pool r.number
      found_at o e = ap at e

  names_right : (names : List (List ℕ)) → Each (PeerReady d pool p) names →
      Each (Right pool) (map (λ name. record { name = name; methods = methods_in d (nearest_shape d p.class) }) names)
  names_right [] all = tt
  names_right (name ∷ names) all = (peer_right name all.0, names_right names all.1)

-- each of some places is one of the definition's
in_number : (xs : List Place) (p : Place) → IsIn p xs → (number : ℕ) × (slice_get xs number ≡ Some p)
in_number [] p h = absurd h
in_number (x ∷ xs) p (inl e) = (0, ap Some (sym e))
in_number (x ∷ xs) p (inr h) = let found = in_number xs p h in (suc found.0, found.1)

in_all : (test : Place → Bool) (xs : List Place) (p : Place) → IsIn p (filter test xs) → IsIn p xs
in_all test [] p h = h
in_all test (x ∷ xs) p h = go (test x) h (in_all test xs p)
  where
    go : (b : Bool) → IsIn p (cond b (x ∷ filter test xs) (filter test xs)) → (IsIn p (filter test xs) → IsIn p xs) → IsIn p (x ∷ xs)
    go true (inl e) later = inl e
    go true (inr h) later = inr (later h)
    go false h later = inr (later h)

pub ready_matches : ReadyMatches
ready_matches d pool ready needed =
    ap (λ m. or_else m (first_unused (needs_of d) pool)) (none_wrong pool (needs_of d) all) ∙ none_unused (needs_of d) pool needed
  where
    of_one : (p : Place) → IsIn p d.places → Each (Right pool) (needs_at d p)
    of_one p h = let found = in_number d.places p h in names_right d pool p p.peers (ready found.0 p found.1)

    all : Each (Right pool) (needs_of d)
    all =
        each_append (Right pool) (flat_map (needs_at d) (prototypes d)) (flat_map (needs_at d) (objects d))
        (each_flat (Right pool) (needs_at d) (prototypes d) (λ p h. of_one p (in_all (λ (p : Place). p.is_prototype) d.places p h)))
        (each_flat (Right pool) (needs_at d) (objects d) (λ p h. of_one p (in_all (λ (p : Place). not p.is_prototype) d.places p h)))
