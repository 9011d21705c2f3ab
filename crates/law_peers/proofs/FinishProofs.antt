-- What the end of a session leaves of a pool.
use Rattle.std.proofs.Common.{◌≡◌, refl, ap, sym, ◌∙◌, ℕ, zero, suc, false, List, [], ◌∷◌, Option, None, Some, inl, inr, ◌⊎◌, slice_get}
use Rattle.std.specs.List.{fold}
use Rattle.std.specs.Option.{option_map_or}
use Rattle.std.specs.Prelude.{slice_set}
use Rattle.ui_machine.specs.Rules.Disposal.{finish, peers_closed}
use Rattle.ui_machine.specs.State.Objects.{Object}
use Rattle.ui_machine.specs.State.Peers.{Peer, PeerState, closed_peer}
use Rattle.law_peers.specs.PeerLaws.{Ends, FinishCloses, RunFinishes, is_shut, peer_in, shut, stays}
use Rattle.law_peers.specs.PeerLines.{peer_lines}
use Rattle.law_peers.proofs.LifeProofs.{each_lives}
use Rattle.law_peers.proofs.RunLives.{run_lives}

-- a peer as it was, or closed, under its name
record Closed (p q : Peer) : Type 0 where
  state : (q.state ≡ p.state) ⊎ (q.state ≡ shut p.state)
  name : q.name ≡ p.name

as_it_was : (p : Peer) → Closed p p
as_it_was p = record { state = inl refl; name = refl }

twice : (p q r : Peer) → Closed p q → Closed q r → Closed p r
twice p q r a b = record { state = both a.state b.state; name = b.name ∙ a.name }
  where
    both : (q.state ≡ p.state) ⊎ (q.state ≡ shut p.state) → (r.state ≡ q.state) ⊎ (r.state ≡ shut q.state) → (r.state ≡ p.state) ⊎ (r.state ≡ shut p.state)
    both (inl e) (inl f) = inl (f ∙ e)
    both (inl e) (inr f) = inr (f ∙ ap shut e)
    both (inr e) (inl f) = inr (f ∙ e)
    both (inr e) (inr f) = inr (f ∙ ap shut e)

-- where a peer is closed, it is, and each other is as it was
set_one : (ps : List Peer) (j k : ℕ) (p : Peer) → slice_get ps j ≡ Some p → Closed (peer_in ps k) (peer_in (slice_set ps j (closed_peer p)) k)
set_one [] j k p e = absurd (cc)
set_one (x ∷ ps) zero zero p e = record { state = inr (ap (λ (o : Option Peer). option_map_or (λ (q : Peer). shut q.state) o (shut x.state)) (sym e)); name = ap (λ (o : Option Peer). option_map_or (λ (q : Peer). q.name) o x.name) (sym e) }
set_one (x ∷ ps) zero (suc k) p e = as_it_was (peer_in ps k)
set_one (x ∷ ps) (suc j) zero p e = as_it_was x
set_one (x ∷ ps) (suc j) (suc k) p e = set_one ps j k p e

-- the pool after an object's peer was closed, if it has one
abbrev closed_for : List Peer → Object → Option ℕ → List Peer
closed_for ps o peer = peers_closed ps (Some (record o { peer = peer }))

of_object : (ps : List Peer) (o : Object) (peer : Option ℕ) (k : ℕ) → Closed (peer_in ps k) (peer_in (closed_for ps o peer) k)
of_object ps o None k = as_it_was (peer_in ps k)
of_object ps o (Some j) k = by (slice_get ps j) refl
  where
    by : (there : Option Peer) → slice_get ps j ≡ there → Closed (peer_in ps k) (peer_in (option_map_or (λ p. slice_set ps j (closed_peer p)) there ps) k)
    by None e = as_it_was (peer_in ps k)
    by (Some p) e = set_one ps j k p e

one_closed : (ps : List Peer) (o : Option Object) (k : ℕ) → Closed (peer_in ps k) (peer_in (peers_closed ps o) k)
one_closed ps None k = as_it_was (peer_in ps k)
one_closed ps (Some o) k = of_object ps o o.peer k

all_closed : (ps : List Peer) (os : List (Option Object)) (k : ℕ) → Closed (peer_in ps k) (peer_in (fold peers_closed ps os) k)
all_closed ps [] k = as_it_was (peer_in ps k)
all_closed ps (o ∷ os) k =
    twice (peer_in ps k) (peer_in (peers_closed ps o) k) (peer_in (fold peers_closed (peers_closed ps o) os) k) (one_closed ps o k) (all_closed (peers_closed ps o) os k)

-- ** runs that are finished

after_end : {line : List ℕ} {ls : List (List ℕ)} {last state : PeerState} (new : PeerState) → Ends line ls last state → (new ≡ state) ⊎ (new ≡ shut state) → (new ≡ last) ⊎ (new ≡ shut last)
after_end new stays e = e
after_end new (is_shut opened among) (inl e) = inr e
after_end new (is_shut opened among) (inr e) = inr e

pub run_finishes : RunFinishes
run_finishes d peers events replies tally new k run =
    let x = each_lives d k peers replies (peer_lines new.transcript) new.peers (run_lives d peers events replies tally new run) in
    let f = all_closed new.peers new.objects k in
    record {
      last = x.last;
      asked = x.asked;
      ended = after_end (peer_in (finish new).peers k).state x.ended f.state;
      named = f.name ∙ x.named;
    }

-- ** what an object has got

stays_closed : (p q : Peer) → Closed p q → p.state.is_open ≡ false → q.state.is_open ≡ false
stays_closed p q c closed = by c.state
  where
    by : (q.state ≡ p.state) ⊎ (q.state ≡ shut p.state) → q.state.is_open ≡ false
    by (inl e) = ap (λ (s : PeerState). s.is_open) e ∙ closed
    by (inr e) = ap (λ (s : PeerState). s.is_open) e

here_closed : (ps : List Peer) (k : ℕ) (p : Peer) → slice_get ps k ≡ Some p → (peer_in (slice_set ps k (closed_peer p)) k).state.is_open ≡ false
here_closed [] k p e = absurd (cc)
here_closed (x ∷ ps) zero p e = refl
here_closed (x ∷ ps) (suc k) p e = here_closed ps k p e

not_there : (ps : List Peer) (k : ℕ) → slice_get ps k ≡ None → (peer_in ps k).state.is_open ≡ false
not_there [] k e = refl
not_there (x ∷ ps) zero e = absurd (cc)
not_there (x ∷ ps) (suc k) e = not_there ps k e

its_own : (ps : List Peer) (o : Object) (k : ℕ) → o.peer ≡ Some k → (peer_in (peers_closed ps (Some o)) k).state.is_open ≡ false
its_own ps o k has = ap (λ peer. (peer_in (closed_for ps o peer) k).state.is_open) has ∙ by (slice_get ps k) refl
  where
    by : (there : Option Peer) → slice_get ps k ≡ there → (peer_in (option_map_or (λ p. slice_set ps k (closed_peer p)) there ps) k).state.is_open ≡ false
    by None e = not_there ps k e
    by (Some p) e = here_closed ps k p e

closes_its : (os : List (Option Object)) (ps : List Peer) (id k : ℕ) (o : Object) → slice_get os id ≡ Some (Some o) → o.peer ≡ Some k → (peer_in (fold peers_closed ps os) k).state.is_open ≡ false
closes_its [] ps id k o e has = absurd (cc)
closes_its (x ∷ os) ps zero k o e has =
    let same : x ≡ Some o = cc in
    stays_closed (peer_in (peers_closed ps x) k) (peer_in (fold peers_closed (peers_closed ps x) os) k) (all_closed (peers_closed ps x) os k)
    (ap (λ y. (peer_in (peers_closed ps y) k).state.is_open) same ∙ its_own ps o k has)
closes_its (x ∷ os) ps (suc id) k o e has = closes_its os (peers_closed ps x) id k o e has

pub finish_closes : FinishCloses
finish_closes w id k o e has = closes_its w.objects w.peers id k o e has
