-- Peers that are short stay so: a pool changes by what peers live through alone, and that leaves the name and the methods of each.
use Rattle.std.proofs.Common.{◌≡◌, refl, ap, sym, subst, ◌∙◌, ℕ, zero, suc, ◌+◌, Bool, true, false, cond, List, [], ◌∷◌, Option, None, Some, arith}
use Rattle.std.specs.List.{find}
use Rattle.std.specs.Prelude.{IfSome, slice_get}
use Rattle.ui_machine.specs.Definition.{Definition}
use Rattle.ui_machine.specs.Definition.Names.{place_from, same_name}
use Rattle.ui_machine.specs.Definition.Places.{Place}
use Rattle.ui_machine.specs.Rules.Build.{first_peer}
use Rattle.ui_machine.specs.Runs.{Fits}
use Rattle.ui_machine.specs.Seq.{write}
use Rattle.ui_machine.specs.State.Peers.{Peer, Reply, closed_peer, first_left, if_left, is_left, no_peer, peer_number}
use Rattle.law_typing.proofs.OneSolutionProofs.{find_in}
use Rattle.law_typing.specs.Laws.StepsKeepGood.{PeerReady}
use Rattle.law_typing.specs.Verdict.Accepted.{Each}
use Rattle.law_static.proofs.Same.{names_same}
use Rattle.law_peers.specs.PeerLaws.{Lives, has_replied, nothing, peer_in, was_closed, was_got}
use Rattle.law_peers.proofs.LifeProofs.{kept}
use Rattle.law_held_peers.proofs.HolderProofs.{read_there}
use Rattle.law_line_lengths.specs.LineLengths.{IsLikeNameOf}
use Rattle.law_line_lengths.proofs.NameProofs.{methods_like, place_peers_like}
use Rattle.law_short_lines.specs.ShortLines.{ReadyPoolsAreShort}
use Rattle.law_short_lines.specs.ShortParts.{FindsShort, HasShortPool, IsShortMethod, IsShortPeer, IsShortPeerAt}

-- a peer with the name and the methods of another
pub record SameFace (p q : Peer) : Type 0 where
  pub name : q.name ≡ p.name
  pub shape : q.state.shape ≡ p.state.shape

module _ (d : Definition) where
  abbrev IsFound : Option Peer → Type 0
  IsFound o = IfSome o (IsShortPeer d)

  short_face : (p q : Peer) → SameFace p q → IsShortPeer d p → IsShortPeer d q
  short_face p q same short = (subst (IsLikeNameOf d) (sym same.name) short.0, subst (Each (IsShortMethod d)) (sym same.shape) short.1)

  no_peer_short : IsShortPeer d no_peer
  no_peer_short = (omega arith, tt)

  -- ** a peer is written

  written_at : (peers : List Peer) (n : ℕ) (y : Peer) → SameFace (peer_in peers n) y → (k : ℕ) → IsShortPeerAt d peers k → IsShortPeerAt d (write no_peer peers n y) k
  written_at peers n y same k short =
      short_face (peer_in peers k) (peer_in (write no_peer peers n y) k)
      (record { name = kept (λ (p : Peer). p.name) peers n k y same.name; shape = kept (λ (p : Peer). p.state.shape) peers n k y same.shape }) short

  module _ (name : List ℕ) where
    abbrev finds : List Peer → Option Peer
    finds peers = find (λ (p : Peer). same_name p.name name) peers

    first_or : (b : Bool) (p : Peer) (more : Option Peer) → IsShortPeer d p → IsFound more → IsFound (cond b (Some p) more)
    first_or true p more short rest = short
    first_or false p more short rest = rest

    written_found : (peers : List Peer) (n : ℕ) (y : Peer) → SameFace (peer_in peers n) y → FindsShort d peers name → FindsShort d (write no_peer peers n y) name
    written_found [] zero y same found = first_or (same_name y.name name) y None (short_face no_peer y same no_peer_short) tt
    written_found [] (suc n) y same found = first_or (same_name [] name) no_peer (finds (write no_peer [] n y)) no_peer_short (written_found [] n y same tt)
    written_found (x ∷ peers) zero y same found = subst (λ own. IsFound (cond (same_name own name) (Some y) (finds peers))) (sym same.name) (by (same_name x.name name) found)
      where
        by : (b : Bool) → IsFound (cond b (Some x) (finds peers)) → IsFound (cond b (Some y) (finds peers))
        by true short = short_face x y same short
        by false rest = rest
    written_found (x ∷ peers) (suc n) y same found = by (same_name x.name name) found (written_found peers n y same)
      where
        by : (b : Bool) → IsFound (cond b (Some x) (finds peers)) → (IsFound (finds peers) → IsFound (finds (write no_peer peers n y))) → IsFound (cond b (Some x) (finds (write no_peer peers n y)))
        by true short so = short
        by false rest so = so rest

    -- what the number of a name reads is what is found
    found_from : (i : ℕ) (peers : List Peer) (n : ℕ) → place_from (λ (p : Peer). p.name) i peers name ≡ Some n → (k : ℕ) × (n ≡ i + k) × (finds peers ≡ Some (peer_in peers k))
    found_from i [] n e = absurd (cc)
    found_from i (x ∷ peers) n e = by (same_name x.name name) e (found_from (suc i) peers n)
      where
        by : (b : Bool) → cond b (Some i) (place_from (λ (p : Peer). p.name) (suc i) peers name) ≡ Some n
            → (place_from (λ (p : Peer). p.name) (suc i) peers name ≡ Some n → (k : ℕ) × (n ≡ suc i + k) × (finds peers ≡ Some (peer_in peers k)))
            → (k : ℕ) × (n ≡ i + k) × (cond b (Some x) (finds peers) ≡ Some (peer_in (x ∷ peers) k))
        by true e later = (0, (let s : i ≡ n = cc in omega (arith, s)), refl)
        by false e later = let h = later e in (suc h.0, (let m = h.1 in omega (arith, m)), h.2)

    found_is : (peers : List Peer) (n : ℕ) → peer_number peers name ≡ Some n → finds peers ≡ Some (peer_in peers n)
    found_is peers n e =
        let h = found_from 0 peers n e in
        let m = h.1 in
        let same : h.0 ≡ n = omega (arith, m) in
        subst (λ k. finds peers ≡ Some (peer_in peers k)) same h.2

    number_short : (peers : List Peer) → FindsShort d peers name → IfSome (peer_number peers name) (IsShortPeerAt d peers)
    number_short peers found = by (peer_number peers name) refl
      where
        by : (o : Option ℕ) → peer_number peers name ≡ o → IfSome o (IsShortPeerAt d peers)
        by None e = tt
        by (Some n) e = subst IsFound (found_is peers n e) found

  -- ** which peer an object gets

  pub first_short : (peers : List Peer) (names : List (List ℕ)) → Each (FindsShort d peers) names → IfSome (first_peer peers names) (IsShortPeerAt d peers)
  first_short peers [] all = tt
  first_short peers (name ∷ names) all = number_short name peers all.0

  pub left_short : (peers : List Peer) (names : List (List ℕ)) → Each (FindsShort d peers) names → IfSome (first_left peers names) (IsShortPeerAt d peers)
  left_short peers [] all = tt
  left_short peers (name ∷ names) all = by (peer_number peers name) (number_short name peers all.0) (left_short peers names all.1)
    where
      either : (b : Bool) (n : ℕ) → IsShortPeerAt d peers n → IfSome (first_left peers names) (IsShortPeerAt d peers) → IfSome (cond b (Some n) (first_left peers names)) (IsShortPeerAt d peers)
      either true n short more = short
      either false n short more = more

      by : (o : Option ℕ) → IfSome o (IsShortPeerAt d peers) → IfSome (first_left peers names) (IsShortPeerAt d peers) → IfSome (if_left peers o (first_left peers names)) (IsShortPeerAt d peers)
      by None short more = more
      by (Some n) short more = either (is_left (slice_get peers n)) n short more

  -- ** peers live on

  -- from one pool to another, short peers stay so, by their numbers and by their names
  pub record Stay (a b : List Peer) : Type 0 where
    pub at : (k : ℕ) → IsShortPeerAt d a k → IsShortPeerAt d b k
    pub found : (name : List ℕ) → FindsShort d a name → FindsShort d b name

  written_stay : (a b : List Peer) (n : ℕ) (y : Peer) → SameFace (peer_in a n) y → Stay (write no_peer a n y) b → Stay a b
  written_stay a b n y same later = record {
    at = λ k short. later.at k (written_at a n y same k short);
    found = λ name short. later.found name (written_found name a n y same short);
  }

  pub live_short : {a b : List Peer} {replies : List Reply} {lines : List (List ℕ)} → Lives d a replies lines b → Each (Fits d) replies → Stay a b
  live_short nothing fits = record { at = λ k short. short; found = λ name short. short }
  live_short {a} {b} (was_got number object more) fits =
      written_stay a b number (record (peer_in a number) { holder = Some object }) (record { name = refl; shape = refl }) (live_short more fits)
  live_short {a} {b} (has_replied {reply = r} asked opened line more) fits =
      written_stay a b r.question.peer (record (peer_in a r.question.peer) { state = r.state })
      (record { name = refl; shape = fits.0.shape ∙ ap (λ s. s.shape) asked }) (live_short more fits.1)
  live_short {a} {b} (was_closed number opened line more) fits =
      written_stay a b number (closed_peer (peer_in a number)) (record { name = refl; shape = refl }) (live_short more fits)

  pub pool_stays : (a b : List Peer) → Stay a b → HasShortPool d a → HasShortPool d b
  pool_stays a b stay pool place p is = all p.peers (pool place p is)
    where
      all : (names : List (List ℕ)) → Each (FindsShort d a) names → Each (FindsShort d b) names
      all [] each = tt
      all (name ∷ names) each = (stay.found name each.0, all names each.1)

  -- ** pools that are ready

  ready_peer : (peers : List Peer) (p : Place) (name : List ℕ) → IsLikeNameOf d name → PeerReady d peers p name → FindsShort d peers name
  ready_peer peers p name like r =
      let found : finds name peers ≡ Some r.peer = found_is name peers r.number r.is ∙ ap (λ (q : Peer). Some q) (read_there peers r.number r.peer r.has) in
      let named : r.peer.name ≡ name = names_same r.peer.name name (find_in (λ (q : Peer). same_name q.name name) peers r.peer found).1 in
      subst IsFound (sym found)
      (subst (IsLikeNameOf d) (sym named) like, subst (Each (IsShortMethod d)) (sym r.shaped.1) (methods_like d r.shape r.methods r.shaped.0))

pub ready_pools_are_short : ReadyPoolsAreShort
ready_pools_are_short d peers ready place p is = all p.peers (place_peers_like d place p is) (ready place p is)
  where
    all : (names : List (List ℕ)) → Each (IsLikeNameOf d) names → Each (PeerReady d peers p) names → Each (FindsShort d peers) names
    all [] like each = tt
    all (name ∷ names) like each = (ready_peer d peers p name like.0 each.0, all names like.1 each.1)
