-- Peers that are closed by their holders, as the machine closes those of objects.
use Rattle.std.proofs.Common.{◌≡◌, ◌∙◌, ap, sym, refl, Bool, true, false, List, [], ◌∷◌, cond, is_some, map}
use Rattle.ui_machine.specs.Rules.Disposal.{finish}
use Rattle.ui_machine.specs.State.Peers.{Peer, closed_peer}
use Rattle.native_peers.specs.Matching.{as_peers}
use Rattle.native_peers.specs.Seen.{Seen}
use Rattle.engine_dispatches.specs.PoolView.{seen_of}
use Rattle.ui_engine.specs.Endings.{closed_if, taken_closed}
use Rattle.law_held_peers.specs.Endings.{closed_if_held}
use Rattle.law_held_peers.proofs.EndingProofs.{finish_closes_all}
use Rattle.law_left_peers.specs.Sessions.FinishedPeers.{PoolsHoldNone, SessionsFinish}

pub pools_hold_none : PoolsHoldNone
pools_hold_none [] = tt
pools_hold_none (s ∷ pool) = (refl, pools_hold_none pool)

-- closed by its holder, a peer is seen as the session leaves it
seen_closed : (p : Peer) → closed_if (is_some p.holder) (seen_of p) ≡ seen_of (closed_if_held p)
seen_closed p = by (is_some p.holder)
  where
    by : (b : Bool) → closed_if b (seen_of p) ≡ seen_of (cond b (closed_peer p) p)
    by true = refl
    by false = refl

all_closed : (peers : List Peer) → taken_closed peers (map seen_of peers) ≡ map seen_of (map closed_if_held peers)
all_closed [] = refl
all_closed (p ∷ peers) = ap (λ s. s ∷ taken_closed peers (map seen_of peers)) (seen_closed p) ∙ ap (λ l. seen_of (closed_if_held p) ∷ l) (all_closed peers)

pub sessions_finish : SessionsFinish
sessions_finish d read a peers ready none events well replies fit tally last run =
    all_closed last.peers ∙ sym (ap (map seen_of) (finish_closes_all d read a peers ready none events well replies fit tally last run))
