-- What a pool is seen as once peers of objects are closed.
use Rattle.std.proofs.Common.{◌≡◌, refl, sym, ap, ◌∙◌, ℕ, zero, suc, ◌≤◌, List, [], ◌∷◌, false, take, fold, Option, None, Some, slice_get, slice_set, arith}
use Rattle.std.specs.Option.{option_map}
use Rattle.std.proofs.lemmas.List.{map-set}
use Rattle.std.proofs.lemmas.Option.{slice_get-map}
use Rattle.ui_machine.specs.State.Objects.{Object, Objects, living}
use Rattle.ui_machine.specs.State.Peers.{Peer, closed_peer}
use Rattle.ui_machine.specs.Rules.Disposal.{peer_of, peers_closed}
use Rattle.native_peers.specs.Matching.{as_peer, as_peers}
use Rattle.native_peers.specs.Moves.{closed}
use Rattle.native_peers.specs.Seen.{ClosesAt, Relations, SameRelations, Seen}
use Rattle.instances.specs.Lent.{AreLent, peer_at}

-- ** one object

at_number : (peers : List Peer) (o : Object) (k : ℕ) (p : Peer) → o.peer ≡ Some k → slice_get peers k ≡ Some p
    → peers_closed peers (Some o) ≡ slice_set peers k (closed_peer p)
at_number peers o k p is at = rw (is, at) refl

seen_at : (pool : List Seen) (k : ℕ) (s : Seen) → slice_get pool k ≡ Some s → slice_get (as_peers pool) k ≡ Some (as_peer s)
seen_at pool k s at = slice_get-map as_peer pool k ∙ ap (option_map as_peer) at

-- its peer is closed now
pub closed_now : (old new : List Seen) (k : ℕ) (x : Option Object) → Some k ≡ peer_of x → ClosesAt k old new → as_peers new ≡ peers_closed (as_peers old) x
closed_now old new k None is closes = absurd (cc is)
closed_now old new k (Some o) is closes =
    ap as_peers closes.new_state
    ∙ map-set as_peer old k (record closes.peer { state = closed closes.peer.state })
    ∙ sym (at_number (as_peers old) o k (as_peer closes.peer) (sym is) (seen_at old k closes.peer closes.at))

set_same : {A : Type 0} (xs : List A) (k : ℕ) (x y : A) → slice_get xs k ≡ Some x → y ≡ x → slice_set xs k y ≡ xs
set_same [] k x y at is = absurd (cc at)
set_same (z ∷ xs) zero x y at is = let here : y ≡ z = cc (at, is) in ap (λ w. w ∷ xs) here
set_same (z ∷ xs) (suc k) x y at is = ap (λ ws. z ∷ ws) (set_same xs k x y at is)

-- or it was closed before
pub closed_before : (pool : List Seen) (k : ℕ) (s : Seen) (x : Option Object) → Some k ≡ peer_of x → slice_get pool k ≡ Some s → s.state.is_open ≡ false
    → as_peers pool ≡ peers_closed (as_peers pool) x
closed_before pool k s None is at shut = absurd (cc is)
closed_before pool k s (Some o) is at shut =
    sym (at_number (as_peers pool) o k (as_peer s) (sym is) (seen_at pool k s at)
    ∙ set_same (as_peers pool) k (as_peer s) (closed_peer (as_peer s)) (seen_at pool k s at)
    (ap (λ b. record (as_peer s) { state = record s.state { is_open = b } }) (sym shut)))

-- or it has none
pub none_to_close : (peers : List Peer) (x : Option Object) → None ≡ peer_of x → peers ≡ peers_closed peers x
none_to_close peers None is = refl
none_to_close peers (Some o) is = let no : o.peer ≡ None = sym is in rw no refl

-- ** all objects

-- one object more
pub close_more : (n : ℕ) (os : Objects) (peers : List Peer) → peers_closed (fold peers_closed peers (take n os)) (living os (suc n)) ≡ fold peers_closed peers (take (suc n) os)
close_more zero [] peers = refl
close_more (suc n) [] peers = refl
close_more zero (o ∷ os) peers = refl
close_more (suc n) (o ∷ os) peers = close_more n os (peers_closed peers o)

none_first : (o : Option Object) (os : Objects) → ((id k : ℕ) → peer_at (o ∷ os) id ≡ Some k → id ≤ 0) → None ≡ peer_of o
none_first o os few = by (peer_of o) refl
  where
    by : (p : Option ℕ) → peer_of o ≡ p → None ≡ p
    by None is = refl
    by (Some k) is = absurd (omega (arith, few 1 k is))

-- all of them, where those behind have no peers
pub close_end : (last : ℕ) (os : Objects) (peers : List Peer) → ((id k : ℕ) → peer_at os id ≡ Some k → id ≤ last)
    → fold peers_closed peers (take last os) ≡ fold peers_closed peers os
close_end zero [] peers few = refl
close_end (suc n) [] peers few = refl
close_end zero (o ∷ os) peers few =
    close_end zero os peers rest ∙ ap (λ ps. fold peers_closed ps os) (none_to_close peers o (none_first o os few))
  where
    rest : (id k : ℕ) → peer_at os id ≡ Some k → id ≤ 0
    rest zero k at = absurd (cc at)
    rest (suc j) k at = absurd (omega (arith, few (suc (suc j)) k at))
close_end (suc n) (o ∷ os) peers few = close_end n os (peers_closed peers o) rest
  where
    rest : (id k : ℕ) → peer_at os id ≡ Some k → id ≤ n
    rest zero k at = absurd (cc at)
    rest (suc j) k at = omega (arith, few (suc (suc j)) k at)

-- one object more, and then all, of what a loop knows
pub close_more_by : (n next : ℕ) (os : Objects) (old mid new : List Peer) → next ≡ suc n → mid ≡ fold peers_closed old (take n os)
    → new ≡ peers_closed mid (living os next) → new ≡ fold peers_closed old (take next os)
close_more_by n next os old mid new is so one =
    one ∙ ap (λ ps. peers_closed ps (living os next)) so
    ∙ ap (λ i. peers_closed (fold peers_closed old (take n os)) (living os i)) is
    ∙ close_more n os old
    ∙ ap (λ i. fold peers_closed old (take i os)) (sym is)

pub close_end_by : (last n count : ℕ) (os : Objects) (old new : List Peer) → last ≤ n → AreLent last count os → new ≡ fold peers_closed old (take n os)
    → new ≡ fold peers_closed old os
close_end_by last n count os old new all are so = so ∙ close_end n os old (λ id k at. let lent = are id k at in omega (arith, lent.0, all))

pub same_on : {a b c : Relations} → SameRelations a b → SameRelations b c → SameRelations a c
same_on first later k s m args answer t =
    let p = first k s m args answer t in
    let q = later k s m args answer t in
    (λ x. q.0 (p.0 x), λ x. p.1 (q.1 x))
