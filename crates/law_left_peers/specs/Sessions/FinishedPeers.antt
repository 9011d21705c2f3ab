-- The pool that a session leaves which is finished after a run: that of the machine's end of a session.
use Rattle.std.specs.Prelude.{◌≡◌, List, map}
use Rattle.ui_machine.specs.Definition.{Definition}
use Rattle.ui_machine.specs.Rules.Disposal.{finish}
use Rattle.ui_machine.specs.Runs.{Fits, IsRun, Tally}
use Rattle.ui_machine.specs.State.Config.{World}
use Rattle.ui_machine.specs.State.Peers.{Peer, Reply}
use Rattle.ui_machine.specs.State.Tasks.{Event}
use Rattle.law_typing.specs.Laws.StepsKeepGood.{PoolReady}
use Rattle.law_typing.specs.Laws.WellRead.{WellRead}
use Rattle.law_typing.specs.Verdict.Accepted.{Accepted, Each}
use Rattle.law_steps.specs.Served.Sessions.{EventRead}
use Rattle.law_held_peers.specs.Endings.{NoneIsHeld}
use Rattle.native_peers.specs.Matching.{as_peers}
use Rattle.native_peers.specs.Seen.{Seen}
use Rattle.engine_dispatches.specs.PoolView.{seen_of}
use Rattle.law_left_peers.specs.Sessions.LeftPeers.{finished}

-- no peer of a pool has a holder before a session begins
abbrev pub PoolsHoldNone : Type 0
PoolsHoldNone = (pool : List Seen) → NoneIsHeld (as_peers pool)

-- After a whole run it is the machine's: each object's open peer is closed, and no other.
abbrev pub SessionsFinish : Type 0
SessionsFinish =
    (d : Definition) → WellRead d → Accepted d → (peers : List Peer) → PoolReady d peers → NoneIsHeld peers →
    (events : List Event) → Each (EventRead d) events →
    (replies : List Reply) → Each (Fits d) replies → (tally : Tally) (last : World) → IsRun d peers events replies tally last →
    finished last ≡ map seen_of (finish last).peers
