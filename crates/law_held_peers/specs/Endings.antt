-- How the peers end that objects hold.
use Rattle.std.specs.Prelude.{◌≡◌, ℕ, false, cond, is_some, List, [], ◌∷◌, None, map}
use Rattle.ui_machine.specs.declared.arm.Halt.{Halt}
use Rattle.ui_machine.specs.Definition.{Definition}
use Rattle.ui_machine.specs.Rules.Disposal.{finish}
use Rattle.ui_machine.specs.Rules.Events.{refusal}
use Rattle.ui_machine.specs.Runs.{Fits, Halts, HaltsIn, IsRun, Tally, of_build}
use Rattle.ui_machine.specs.State.Config.{World}
use Rattle.ui_machine.specs.State.Peers.{Peer, Reply, closed_peer}
use Rattle.ui_machine.specs.State.Tasks.{Event}
use Rattle.law_typing.specs.Laws.Beginnings.{tally}
use Rattle.law_typing.specs.Laws.StepsKeepGood.{PoolReady}
use Rattle.law_typing.specs.Laws.WellRead.{WellRead}
use Rattle.law_typing.specs.Verdict.Accepted.{Accepted, Each}
use Rattle.law_steps.specs.Served.Sessions.{EventRead}
use Rattle.law_steps.specs.Served.WorkedSession.{PremisesMet}
use Rattle.law_peers.specs.PeerLaws.{peer_in}
use Rattle.law_untaken_peers.specs.Untaken.{is_got}
use Rattle.law_held_peers.specs.Holders.{AreHeldWell}

-- a peer, closed if an object holds it
abbrev pub closed_if_held : Peer → Peer
closed_if_held p = cond (is_some p.holder) (closed_peer p) p

-- As the session is finished in this world, each peer is closed if an object holds it, and else stays as it is; but for those that had a holder in
-- the pool before.
abbrev pub HeldAreClosed : List Peer → World → Type 0
HeldAreClosed pool w = (number : ℕ) → is_got pool number ≡ false → peer_in (finish w).peers number ≡ closed_if_held (peer_in w.peers number)

abbrev pub FinishClosesHeld : Type 0
FinishClosesHeld = (d : Definition) (pool : List Peer) (w : World) → AreHeldWell d pool w → HeldAreClosed pool w

-- where none had one, these are all
abbrev pub NoneIsHeld : List Peer → Type 0
NoneIsHeld pool = Each (λ (p : Peer). p.holder ≡ None) pool

abbrev pub PoolIsClosed : Type 0
PoolIsClosed = (pool : List Peer) → NoneIsHeld pool → (w : World) → HeldAreClosed pool w → (finish w).peers ≡ map closed_if_held w.peers

-- ** after a run

abbrev pub RunsCloseHeld : Type 0
RunsCloseHeld =
    (d : Definition) → WellRead d → Accepted d → (peers : List Peer) → PoolReady d peers → (events : List Event) → Each (EventRead d) events →
    (replies : List Reply) → Each (Fits d) replies → (tally : Tally) (last : World) → IsRun d peers events replies tally last →
    HeldAreClosed peers last

-- As the session is finished after a run, in whose pool no peer had a holder as it began, each peer that an object holds is closed, and no other.
abbrev pub FinishClosesAll : Type 0
FinishClosesAll =
    (d : Definition) → WellRead d → Accepted d → (peers : List Peer) → PoolReady d peers → NoneIsHeld peers →
    (events : List Event) → Each (EventRead d) events →
    (replies : List Reply) → Each (Fits d) replies → (tally : Tally) (last : World) → IsRun d peers events replies tally last →
    (finish last).peers ≡ map closed_if_held last.peers

-- what that asks is met, by a session whose pool has a peer
pub record PremisesMetUnheld : Type 0 where
  pub session : PremisesMet
  pub unheld : NoneIsHeld (tally ∷ [])

-- ** where no memory was found

-- a world in which these lines were shown, and whose peers are closed so
pub record ShownAndClosed (pool : List Peer) (shown : List (List ℕ)) : Type 0 where
  pub at : World
  pub lines : at.transcript ≡ shown
  pub closed : HeldAreClosed pool at

-- A build that halts has shown its lines in such a world,
abbrev pub BuildsHaltClosed : Type 0
BuildsHaltClosed =
    (d : Definition) → WellRead d → Accepted d → (peers : List Peer) → PoolReady d peers → (replies : List Reply) → Each (Fits d) replies →
    (halt : Halt) (shown : List (List ℕ)) → Halts d replies (of_build d peers) halt shown → ShownAndClosed peers shown

-- and so has an event that halts after a run.
abbrev pub EventsHaltClosed : Type 0
EventsHaltClosed =
    (d : Definition) → WellRead d → Accepted d → (peers : List Peer) → PoolReady d peers → (events : List Event) → Each (EventRead d) events →
    (replies : List Reply) → Each (Fits d) replies → (tally : Tally) (w : World) → IsRun d peers events replies tally w →
    (event : Event) → EventRead d event → refusal w event ≡ None → (more : List Reply) → Each (Fits d) more →
    (halt : Halt) (shown : List (List ℕ)) → HaltsIn d event more w halt shown → ShownAndClosed peers shown
