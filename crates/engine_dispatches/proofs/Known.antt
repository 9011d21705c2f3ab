-- What is known of a pool stays known as a peer is closed.
use Rattle.std.proofs.Common.{◌≡◌, refl, ap, sym, ◌∙◌, subst, ℕ, zero, suc, Bool, true, false, cond, not, ◌&&◌, List, [], ◌∷◌, map, Option, None, Some}
use Rattle.std.specs.Option.{option_map_or}
use Rattle.std.specs.Prelude.{IsSomeAnd, IsTrue, option_and_then, slice_get, slice_set}
use Rattle.ui_machine.specs.Seq.{read, write}
use Rattle.ui_machine.specs.State.Config.{World, is_asked}
use Rattle.ui_machine.specs.State.Peers.{Peer, closed_peer, no_peer}
use Rattle.law_peers.specs.PeerLaws.{peer_in}
use Rattle.native_peers.specs.Moves.{closed}
use Rattle.native_peers.specs.Seen.{Seen}
use Rattle.engine_world.specs.ClosingView.{closed_with, open_peer}
use Rattle.engine_world.specs.SeatView.{closed_at}
use Rattle.engine_dispatches.specs.ClosingTasks.{after_closing}
use Rattle.engine_dispatches.specs.PoolView.{IsOpen, Knows, closed_in, due, forgotten_seen, seen_of}
use Rattle.engine_dispatches.proofs.Asking.{open_there}
use Rattle.engine_dispatches.proofs.Closings.{SeenStays}
use Rattle.engine_dispatches.proofs.Living.{map_read, no_seen, read_at, seen_at, shut_seen}

-- where nothing is closed
pub known_still : (w v : World) (pool : List Seen) → Knows w pool → SeenStays w v → Knows v pool
known_still w v pool knows stays = knows ∙ sym stays

abbrev shut_one : Seen → Seen
shut_one s = record s { state = closed s.state }

closed_later : (s : Seen) (pool : List Seen) (k : ℕ) → closed_in (Some (suc k)) (s ∷ pool) ≡ s ∷ closed_in (Some k) pool
closed_later s pool k = by (slice_get pool k)
  where
    by : (o : Option Seen) → option_map_or (λ (x : Seen). s ∷ slice_set pool k (shut_one x)) o (s ∷ pool) ≡ s ∷ option_map_or (λ (x : Seen). slice_set pool k (shut_one x)) o pool
    by None = refl
    by (Some x) = refl

-- all but whether a peer is open stays
pub closed_same : (peer : Option ℕ) (pool : List Seen) → map shut_seen (closed_in peer pool) ≡ map shut_seen pool
closed_same None pool = refl
closed_same (Some k) [] = refl
closed_same (Some zero) (s ∷ pool) = refl
closed_same (Some (suc k)) (s ∷ pool) = ap (λ (l : List Seen). map shut_seen l) (closed_later s pool k) ∙ ap (λ (l : List Seen). shut_seen s ∷ l) (closed_same (Some k) pool)

one_closed : (pool : List Seen) (ps : List Peer) (k : ℕ) → map forgotten_seen pool ≡ map seen_of ps → (peer_in ps k).state.is_open ≡ true
    → map forgotten_seen (closed_in (Some k) pool) ≡ map seen_of (closed_at ps k)
one_closed pool [] k e is = absurd (cc is)
one_closed [] (p ∷ ps) k e is = absurd (cc e)
one_closed (s ∷ pool) (p ∷ ps) zero e is =
    let first : forgotten_seen s ≡ seen_of p = cc e in
    let rest : map forgotten_seen pool ≡ map seen_of ps = cc e in
    ap (λ (x : Seen). shut_one x ∷ map forgotten_seen pool) first ∙ ap (λ (l : List Seen). seen_of (closed_peer p) ∷ l) rest
one_closed (s ∷ pool) (p ∷ ps) (suc k) e is =
    let first : forgotten_seen s ≡ seen_of p = cc e in
    let rest : map forgotten_seen pool ≡ map seen_of ps = cc e in
    ap (λ (l : List Seen). map forgotten_seen l) (closed_later s pool k)
    ∙ ap (λ (x : Seen). x ∷ map forgotten_seen (closed_in (Some k) pool)) first
    ∙ ap (λ (l : List Seen). seen_of p ∷ l) (one_closed pool ps k rest is)

-- the peer that is closed with an object is open
pub with_open : (ps : List Peer) (peer : Option ℕ) (k : ℕ) → option_and_then (open_peer ps) peer ≡ Some k → (peer_in ps k).state.is_open ≡ true
with_open ps None k is = absurd (cc is)
with_open ps (Some n) k is = by (slice_get ps n) refl is
  where
    open_so : (p : Peer) → slice_get ps n ≡ Some p → (b : Bool) → p.state.is_open ≡ b → cond b (Some n) None ≡ Some k → (peer_in ps k).state.is_open ≡ true
    open_so p there true opens is =
        let same : n ≡ k = cc is in
        subst (λ (j : ℕ). (peer_in ps j).state.is_open ≡ true) same (ap (λ (q : Peer). q.state.is_open) (read_at no_peer p ps n there) ∙ opens)
    open_so p there false opens is = absurd (cc is)

    by : (o : Option Peer) → slice_get ps n ≡ o → option_and_then (λ (p : Peer). cond p.state.is_open (Some n) None) o ≡ Some k → (peer_in ps k).state.is_open ≡ true
    by None there is = absurd (cc is)
    by (Some p) there is = open_so p there p.state.is_open refl is

-- what is open by what is known is open in the pool
pub open_known : (w : World) (pool : List Seen) (k : ℕ) → Knows w pool → (peer_in w.peers k).state.is_open ≡ true → IsOpen pool k
open_known w pool k knows is =
    let opens : (read no_seen pool k).state.is_open ≡ true =
    ap (λ (s : Seen). s.state.is_open) (sym (map_read forgotten_seen no_seen pool k))
    ∙ ap (λ (l : List Seen). (read no_seen l k).state.is_open) knows
    ∙ ap (λ (s : Seen). s.state.is_open) (seen_at w.peers k)
    ∙ is in
    let there = open_there pool k opens in
    subst (λ (o : Option Seen). IsSomeAnd o (λ s. IsTrue s.state.is_open)) (sym there.1) there.2

-- where the peer of an object is closed
pub known_closed : (w v : World) (pool : List Seen) (id : ℕ) → Knows w pool → v.peers ≡ after_closing (closed_with w id) w.peers → Knows v (closed_in (closed_with w id) pool)
known_closed w v pool id knows is = by (closed_with w id) (λ k same. with_open w.peers _ k same) is
  where
    by : (peer : Option ℕ) → ((k : ℕ) → peer ≡ Some k → (peer_in w.peers k).state.is_open ≡ true) → v.peers ≡ after_closing peer w.peers → Knows v (closed_in peer pool)
    by None opens is = knows ∙ ap (λ (l : List Peer). map seen_of l) (sym is)
    by (Some k) opens is = one_closed pool w.peers k knows (opens k refl) ∙ ap (λ (l : List Peer). map seen_of l) (sym is)

-- ** what is due

pub opens_alike : (w : World) (pool : List Seen) (k : ℕ) → Knows w pool → (read no_seen pool k).state.is_open ≡ is_asked w k
opens_alike w pool k knows =
    ap (λ (s : Seen). s.state.is_open) (sym (map_read forgotten_seen no_seen pool k))
    ∙ ap (λ (l : List Seen). (read no_seen l k).state.is_open) knows
    ∙ ap (λ (s : Seen). s.state.is_open) (seen_at w.peers k)

-- where the pool is known nothing is
pub none_due : (w : World) (pool : List Seen) (left : Option ℕ) → Knows w pool → due w pool left ≡ None
none_due w pool None knows = refl
none_due w pool (Some k) knows = ap (λ b. cond (b && not (is_asked w k)) (Some k) None) (opens_alike w pool k knows) ∙ by (is_asked w k)
  where
    by : (b : Bool) → cond (b && not b) (Some k) None ≡ None
    by true = refl
    by false = refl

-- so it is where nothing is closed, whatever number is left
pub known_due_still : (w v : World) (pool : List Seen) (left : Option ℕ) → Knows w pool → SeenStays w v → Knows v (closed_in (due v pool left) pool)
known_due_still w v pool left knows stays =
    let known = known_still w v pool knows stays in
    subst (λ (o : Option ℕ). Knows v (closed_in o pool)) (sym (none_due v pool left known)) known

closed_read : (ps : List Peer) (k : ℕ) → (read no_peer (write no_peer ps k (closed_peer (read no_peer ps k))) k).state.is_open ≡ false
closed_read [] zero = refl
closed_read [] (suc k) = closed_read [] k
closed_read (p ∷ ps) zero = refl
closed_read (p ∷ ps) (suc k) = closed_read ps k

-- where one is closed it is the one that is due
pub known_due_closed : (w v : World) (pool : List Seen) (peer : Option ℕ) → ((k : ℕ) → peer ≡ Some k → (peer_in w.peers k).state.is_open ≡ true) → Knows w pool
    → v.peers ≡ after_closing peer w.peers → Knows v (closed_in (due v pool peer) pool)
known_due_closed w v pool None opens knows is = knows ∙ ap (λ (l : List Peer). map seen_of l) (sym is)
known_due_closed w v pool (Some k) opens knows is =
    let was : (read no_seen pool k).state.is_open ≡ true = opens_alike w pool k knows ∙ opens k refl in
    let shut : is_asked v k ≡ false = ap (λ (l : List Peer). (peer_in l k).state.is_open) is ∙ closed_read w.peers k in
    let one : due v pool (Some k) ≡ Some k = ap (λ b. cond (b && not (is_asked v k)) (Some k) None) was ∙ ap (λ b. cond (not b) (Some k) None) shut in
    subst (λ (o : Option ℕ). Knows v (closed_in o pool)) (sym one) (one_closed pool w.peers k knows (opens k refl) ∙ ap (λ (l : List Peer). map seen_of l) (sym is))
