-- A new object takes a peer of the pool.
use Rattle.std.proofs.Common.{◌≡◌, inl, inr, ◌⊎◌, refl, sym, ap, subst, ◌∙◌, ℕ, zero, suc, ◌+◌, ◌<◌, ◌≤◌, Bool, true, false, cond, List, [], ◌∷◌, ◌++◌, Option, None, Some, slice_get, arith}
use Rattle.std.specs.Prelude.{not, nat_eq, is_none, is_some}
use Rattle.std.specs.List.{list_any, flat_map}
use Rattle.std.proofs.lemmas.Bool.{eqb-true, eqb-false, eq-eqb}
use Rattle.ui_machine.specs.Seq.{read, write}
use Rattle.ui_machine.specs.Definition.{Definition}
use Rattle.ui_machine.specs.Definition.Names.{same_name, place_from}
use Rattle.ui_machine.specs.Definition.Places.{Place}
use Rattle.ui_machine.specs.Definition.Lookups.{place_at}
use Rattle.ui_machine.specs.State.Peers.{Peer, no_peer, peer_number, is_left, if_left, first_left}
use Rattle.ui_machine.specs.State.Config.{World}
use Rattle.ui_machine.specs.Rules.Construction.{nearest_shape, has_shape, peer_left, peer_to_take, new_object, lent}
use Rattle.law_typing.specs.Laws.{IsIn}
use Rattle.law_typing.specs.Laws.WellRead.{no_two}
use Rattle.law_typing.specs.Verdict.Accepted.{Each}
use Rattle.law_typing.specs.Good.Objects.{PeerGood, PoolGood, PeersGood}
use Rattle.law_typing.proofs.Lists.{both_parts, any_true, each_in}
use Rattle.law_typing.proofs.EdgeProofs.{append_left, append_right}
use Rattle.law_steps.specs.Kept.New.{next_identity}
use Rattle.law_steps.specs.Kept.Lent.{NamedOnce, PeersLent, NewPeerGood}
use Rattle.law_steps.proofs.Kept.NewProofs.{peer_write}

-- ** names

name_itself : (s : List ℕ) → same_name s s ≡ true
name_itself [] = refl
name_itself (x ∷ xs) = ap (λ b. cond b (same_name xs xs) false) (eq-eqb x x refl) ∙ name_itself xs

abbrev called : Peer → List ℕ
called p = p.name

-- a peer keeps its name as it is lent
still_named : (peers : List Peer) (number i : ℕ) (q : Peer) (holder : Option ℕ) (name : List ℕ) → slice_get peers number ≡ Some q →
    place_from called i (write no_peer peers number (record (read no_peer peers number) { holder = holder })) name ≡ place_from called i peers name
still_named [] number i q holder name e = absurd (cc)
still_named (x ∷ peers) zero i q holder name e = refl
still_named (x ∷ peers) (suc number) i q holder name e =
    ap (λ o. cond (same_name x.name name) (Some i) o) (still_named peers number (suc i) q holder name e)

names_same : (a b : List ℕ) → same_name a b ≡ true → a ≡ b
names_same [] [] e = refl
names_same [] (y ∷ ys) e = absurd (cc)
names_same (x ∷ xs) [] e = absurd (cc)
names_same (x ∷ xs) (y ∷ ys) e = go (λ h. names_same xs ys h) (nat_eq x y) refl e
  where
    go : (same_name xs ys ≡ true → xs ≡ ys) → (b : Bool) → nat_eq x y ≡ b → cond b (same_name xs ys) false ≡ true → x ∷ xs ≡ y ∷ ys
    go rest true t e = (let f = eqb-true x y t in let g = rest e in cc)
    go rest false t e = absurd (cc)

-- what a name finds is called so
pub record Found (peers : List Peer) (name : List ℕ) (number : ℕ) : Type 0 where
  pub peer : Peer
  pub is : slice_get peers number ≡ Some peer
  pub named : peer.name ≡ name

found_from : (i : ℕ) (peers : List Peer) (name : List ℕ) (n : ℕ) → place_from called i peers name ≡ Some n → (k : ℕ) × (n ≡ i + k) × Found peers name k
found_from i [] name n e = absurd (cc)
found_from i (x ∷ peers) name n e = go (λ f. found_from (suc i) peers name n f) (same_name x.name name) refl e
  where
    later : ((k : ℕ) × (n ≡ suc i + k) × Found peers name k) → (k : ℕ) × (n ≡ i + k) × Found (x ∷ peers) name k
    later h = (suc h.0, (let m = h.1 in omega (arith, m)), record { peer = h.2.peer; is = h.2.is; named = h.2.named })

    go : (place_from called (suc i) peers name ≡ Some n → (k : ℕ) × (n ≡ suc i + k) × Found peers name k) → (b : Bool) → same_name x.name name ≡ b →
        cond b (Some i) (place_from called (suc i) peers name) ≡ Some n → (k : ℕ) × (n ≡ i + k) × Found (x ∷ peers) name k
    go rec true t f = (0, (let s : i ≡ n = cc in omega (arith, s)), record { peer = x; is = refl; named = names_same x.name name t })
    go rec false t f = later (rec f)

found : (peers : List Peer) (name : List ℕ) (number : ℕ) → peer_number peers name ≡ Some number → Found peers name number
found peers name number e =
    let f = found_from 0 peers name number e in
    let m = f.1 in
    let same : f.0 ≡ number = omega (arith, m) in
    subst (Found peers name) same f.2

-- the first that is left of some peers
pub record Taken (peers : List Peer) (names : List (List ℕ)) (number : ℕ) : Type 0 where
  pub name : List ℕ
  pub among : IsIn name names
  pub numbered : peer_number peers name ≡ Some number
  pub peer : Peer
  pub is : slice_get peers number ≡ Some peer
  pub named : peer.name ≡ name
  pub free : peer.holder ≡ None

no_holder : {A : Type 0} (o : Option A) → is_none o ≡ true → o ≡ None
no_holder None e = refl
no_holder (Some x) e = absurd (cc)

taken : (peers : List Peer) (names : List (List ℕ)) (number : ℕ) → first_left peers names ≡ Some number → Taken peers names number
taken peers [] number e = absurd (cc)
taken peers (name ∷ names) number e = go (peer_number peers name) refl e (λ e. taken peers names number e)
  where
    later : Taken peers names number → Taken peers (name ∷ names) number
    later t = record { name = t.name; among = inr t.among; numbered = t.numbered; peer = t.peer; is = t.is; named = t.named; free = t.free }

    here : (n : ℕ) → peer_number peers name ≡ Some n → is_left (slice_get peers n) ≡ true → n ≡ number → Taken peers (name ∷ names) number
    here n f h same =
        let x = found peers name n f in
        subst (Taken peers (name ∷ names)) same
        (record {
          name = name;
          among = inl refl;
          numbered = f;
          peer = x.peer;
          is = x.is;
          named = x.named;
          free = no_holder x.peer.holder (ap is_left (sym x.is) ∙ h);
        })

    at : (n : ℕ) → peer_number peers name ≡ Some n → (b : Bool) → is_left (slice_get peers n) ≡ b → cond b (Some n) (first_left peers names) ≡ Some number → (first_left peers names ≡ Some number → Taken peers names number) →
        Taken peers (name ∷ names) number
    at n f true h e more = here n f h (let s : n ≡ number = cc in s)
    at n f false h e more = later (more e)

    go : (o : Option ℕ) → peer_number peers name ≡ o → if_left peers o (first_left peers names) ≡ Some number → (first_left peers names ≡ Some number → Taken peers names number) → Taken peers (name ∷ names) number
    go None f e more = later (more e)
    go (Some n) f e more = at n f (is_left (slice_get peers n)) refl e more

-- ** each name once

apart_names : (as_before later : List (List ℕ)) → no_two same_name (as_before ++ later) ≡ true → (no_two same_name later ≡ true) × ((n : List ℕ) → IsIn n as_before → IsIn n later → ⊥)
apart_names [] later e = (e, λ n h k. h)
apart_names (x ∷ xs) later e =
    let p = both_parts (not (list_any (same_name x) (xs ++ later))) (no_two same_name (xs ++ later)) e in
    let rest = apart_names xs later p.1 in
    (rest.0, λ n h k. go n h k rest.1 p.0)
  where
    go : (n : List ℕ) → IsIn n (x ∷ xs) → IsIn n later → ((n : List ℕ) → IsIn n xs → IsIn n later → ⊥) → not (list_any (same_name x) (xs ++ later)) ≡ true → ⊥
    go n (inl s) k rest none =
        let found = any_true (same_name x) (xs ++ later) n (append_right xs later n k) (ap (same_name x) s ∙ name_itself x) in
        let f = ap not found in
        let g : true ≡ false = sym none ∙ f in
        cc
    go n (inr h) k rest none = rest n h k

in_flat : (ps : List Place) (j : ℕ) (p : Place) (n : List ℕ) → slice_get ps j ≡ Some p → IsIn n p.peers → IsIn n (flat_map (λ (p : Place). p.peers) ps)
in_flat [] j p n e h = absurd (cc)
in_flat (q ∷ ps) zero p n e h = let s : p ≡ q = cc in append_left q.peers (flat_map (λ (p : Place). p.peers) ps) n (subst (λ (p : Place). IsIn n p.peers) s h)
in_flat (q ∷ ps) (suc j) p n e h = append_right q.peers (flat_map (λ (p : Place). p.peers) ps) n (in_flat ps j p n e h)

one_place : (ps : List Place) (i j : ℕ) (p q : Place) (n : List ℕ) → no_two same_name (flat_map (λ (p : Place). p.peers) ps) ≡ true → slice_get ps i ≡ Some p → slice_get ps j ≡ Some q →
    IsIn n p.peers → IsIn n q.peers → i ≡ j
one_place [] i j p q n two e f h k = absurd (cc)
one_place (x ∷ ps) zero zero p q n two e f h k = refl
one_place (x ∷ ps) zero (suc j) p q n two e f h k =
    let s : p ≡ x = cc in
    absurd ((apart_names x.peers (flat_map (λ (p : Place). p.peers) ps) two).1 n (subst (λ (p : Place). IsIn n p.peers) s h) (in_flat ps j q n f k))
one_place (x ∷ ps) (suc i) zero p q n two e f h k =
    let s : q ≡ x = cc in
    absurd ((apart_names x.peers (flat_map (λ (p : Place). p.peers) ps) two).1 n (subst (λ (p : Place). IsIn n p.peers) s k) (in_flat ps i p n e h))
one_place (x ∷ ps) (suc i) (suc j) p q n two e f h k =
    ap suc (one_place ps i j p q n (apart_names x.peers (flat_map (λ (p : Place). p.peers) ps) two).0 e f h k)

-- ** the pool

-- a peer as it is lent
abbrev lends : List Peer → (number new : ℕ) → Peer
lends peers number new = record (read no_peer peers number) { holder = Some new }

each_inside : {A : Type 0} (P Q : A → Type 0) (xs : List A) → ((x : A) → IsIn x xs → P x → Q x) → Each P xs → Each Q xs
each_inside P Q [] f all = tt
each_inside P Q (x ∷ xs) f all = (f x (inl refl) all.0, each_inside P Q xs (λ y h. f y (inr h)) all.1)

module _ (d : Definition) (once : NamedOnce d) (peers : List Peer) (place made later new : ℕ) (p : Place) (at : place_at d place ≡ Some p) (passed : (p.is_prototype ≡ true) ⊎ (place < later)) (more : made ≤ later) where
  one_lent : (number : ℕ) → Taken peers p.peers number → (other : ℕ) (q : Place) (name : List ℕ) → place_at d other ≡ Some q → IsIn name q.peers → PoolGood d peers made other q name →
      PoolGood d (lent (Some number) new peers) later other q name
  one_lent number t other q name there among g = go (nat_eq number g.number) refl
    where
      numbered : peer_number (lent (Some number) new peers) name ≡ Some g.number
      numbered = still_named peers number 0 t.peer (Some new) name t.is ∙ g.is

      -- what is lent is wanted by no place to come
      wanted : number ≡ g.number → q.is_prototype ≡ false → later ≤ other → ⊥
      wanted same object low =
          let mine = found peers name g.number g.is in
          let one : t.peer ≡ mine.peer = (let f = ap (slice_get peers) same in let h = sym t.is ∙ (f ∙ mine.is) in cc) in
          let named : t.name ≡ name = sym t.named ∙ (ap called one ∙ mine.named) in
          let here : place ≡ other = one_place d.places place other p q name once at there (subst (λ n. IsIn n p.peers) named t.among) among in
          let own : p ≡ q = (let f = sym at ∙ (ap (place_at d) here ∙ there) in cc) in
          by here own passed
        where
          by : place ≡ other → p ≡ q → (p.is_prototype ≡ true) ⊎ (place < later) → ⊥
          by here own (inl e) = let f = sym e ∙ (ap (λ (p : Place). p.is_prototype) own ∙ object) in cc
          by here own (inr e) = omega (arith, here, e, low)

      go : (b : Bool) → nat_eq number g.number ≡ b → PoolGood d (lent (Some number) new peers) later other q name
      go true s =
          let same = eqb-true number g.number s in
          let x = (peer_write peers number (lends peers number new) g.number g.peer g.has).1 same in
          record {
            number = g.number;
            peer = lends peers number new;
            shape = g.shape;
            methods = g.methods;
            is = numbered;
            has = x.0;
            of_class = g.of_class;
            shaped = (g.shaped.0, ap (λ (p : Peer). p.state.shape) x.1 ∙ g.shaped.1);
            is_open = λ none. absurd (cc);
            left = λ object low. absurd (wanted same object low);
          }
      go false s =
          record {
            number = g.number;
            peer = g.peer;
            shape = g.shape;
            methods = g.methods;
            is = numbered;
            has = (peer_write peers number (lends peers number new) g.number g.peer g.has).0 (eqb-false number g.number s);
            of_class = g.of_class;
            shaped = g.shaped;
            is_open = g.is_open;
            left = λ object low. g.left object (omega (arith, low, more));
          }

  none_lent : (other : ℕ) (q : Place) (name : List ℕ) → PoolGood d peers made other q name → PoolGood d peers later other q name
  none_lent other q name g = record {
    number = g.number;
    peer = g.peer;
    shape = g.shape;
    methods = g.methods;
    is = g.is;
    has = g.has;
    of_class = g.of_class;
    shaped = g.shaped;
    is_open = g.is_open;
    left = λ object low. g.left object (omega (arith, low, more));
  }

  pool_lent : (o : Option ℕ) → ((number : ℕ) → o ≡ Some number → Taken peers p.peers number) → PeersGood d peers made → PeersGood d (lent o new peers) later
  pool_lent None t g other q there = each_inside (PoolGood d peers made other q) (PoolGood d peers later other q) q.peers (λ name h. none_lent other q name) (g other q there)
  pool_lent (Some number) t g other q there =
      each_inside (PoolGood d peers made other q) (PoolGood d (lent (Some number) new peers) later other q) q.peers
      (λ name h. one_lent number (t number refl) other q name there h) (g other q there)

-- what an object takes is the first that is left
takes_first : (d : Definition) (w : World) (p : Place) (number : ℕ) → peer_to_take d w p ≡ Some number → Taken w.peers p.peers number
takes_first d w p number e = go (has_shape d p.class) e
  where
    go : (b : Bool) → cond b (peer_left w p) None ≡ Some number → Taken w.peers p.peers number
    go true e = taken w.peers p.peers number e
    go false e = absurd (cc)

pub peers_lent : PeersLent
peers_lent d once w place made later new p at passed more g =
    pool_lent d once w.peers place made later new p at passed more (peer_to_take d w p) (λ number e. takes_first d w p number e) g

-- ** the peer of the new object

abbrev OwnGood : Definition → World → ℕ → Place → Type 0
OwnGood d w place p = PeerGood d (lent (peer_to_take d w p) (next_identity w) w.peers) (next_identity w) (new_object d place p (peer_to_take d w p))

pub new_peer_good : NewPeerGood
new_peer_good d w place made p at g left = (λ number q e is. free number q (takes_first d w p number e) is, good (nearest_shape d p.class) refl)
  where
    free : (number : ℕ) (q : Peer) → Taken w.peers p.peers number → slice_get w.peers number ≡ Some q → q.holder ≡ None
    free number q t is = let same : q ≡ t.peer = (let f = sym is ∙ t.is in cc) in ap (λ (p : Peer). p.holder) same ∙ t.free

    given : (shape : ℕ) → nearest_shape d p.class ≡ Some shape → (o : Option ℕ) → peer_left w p ≡ o → is_some o ≡ true → OwnGood d w place p
    given shape e None f some = absurd (cc)
    given shape e (Some number) f some =
        let t = taken w.peers p.peers number f in
        let pool = each_in (PoolGood d w.peers made place p) p.peers (g place p at) t.name t.among in
        let same : pool.number ≡ number = (let h = sym pool.is ∙ t.numbered in cc) in
        let one : pool.peer ≡ t.peer = (let h = sym pool.has ∙ (ap (slice_get w.peers) same ∙ t.is) in cc) in
        let shaped : pool.shape ≡ shape = (let h = sym pool.of_class ∙ e in cc) in
        let shape_is : slice_get d.shapes shape ≡ Some pool.methods = ap (slice_get d.shapes) (sym shaped) ∙ pool.shaped.0 in
        let new = lends w.peers number (next_identity w) in
        let x = (peer_write w.peers number new number t.peer t.is).1 refl in
        rw (e, f, shape_is) (
          number,
          new,
          refl,
          x.0,
          refl,
          ap (λ (p : Peer). p.state.is_open) x.1 ∙ (ap (λ (p : Peer). p.state.is_open) (sym one) ∙ pool.is_open (ap (λ (p : Peer). p.holder) one ∙ t.free)),
          ap (λ (p : Peer). p.state.shape) x.1 ∙ (ap (λ (p : Peer). p.state.shape) (sym one) ∙ pool.shaped.1),
        )

    good : (o : Option ℕ) → nearest_shape d p.class ≡ o → OwnGood d w place p
    good None e = rw e refl
    good (Some shape) e = given shape e (peer_left w p) refl (left (ap (λ o. is_some o) e))
