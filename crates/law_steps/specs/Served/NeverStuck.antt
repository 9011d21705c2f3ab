-- The promise: no run of an accepted definition is ever stuck, and each dispatch keeps within its bound.
use Rattle.std.specs.Prelude.{◌≡◌, ℕ, List}
use Rattle.ui_machine.specs.Definition.{Definition}
use Rattle.ui_machine.specs.State.Peers.{Peer, Reply}
use Rattle.ui_machine.specs.State.Tasks.{Event}
use Rattle.ui_machine.specs.State.Config.{World}
use Rattle.ui_machine.specs.Runs.{Fits, Tally, IsRun}
use Rattle.law_typing.specs.Graph.{graph}
use Rattle.law_typing.specs.Verdict.{verdict, accepted}
use Rattle.law_typing.specs.Verdict.Accepted.{Each, Accepted}
use Rattle.law_typing.specs.Verdict.Report.{report}
use Rattle.law_typing.specs.Laws.WellRead.{WellRead}
use Rattle.law_typing.specs.Laws.StepsKeepGood.{PoolReady, IsResting}
use Rattle.law_steps.specs.Served.Dispatches.{Keeps}
use Rattle.law_steps.specs.Served.Sessions.{EventRead, Dispatch, entry_to, beginning_of}

-- With a pool that is ready, and over events that reading accepts, each dispatch of each run keeps what is promised.
abbrev pub RunsKeep : (d : Definition) → Accepted d → Type 0
RunsKeep d a =
    (peers : List Peer) → PoolReady d peers → (events : List Event) → Each (EventRead d) events →
    (x : Dispatch d peers events) → Keeps d a (entry_to x) (beginning_of x)

-- For every definition that was read well and is accepted they do.
abbrev pub NeverStuck : Type 0
NeverStuck = (d : Definition) → WellRead d → (a : Accepted d) → RunsKeep d a

-- So they do for what is judged to be accepted, by the numbers of its report.
abbrev pub ReportIsKept : Type 0
ReportIsKept =
    (d : Definition) (lines : List (List ℕ)) → WellRead d → verdict d ≡ accepted lines →
    (a : Accepted d) × (lines ≡ report d (graph d) a.weighed.ranks a.weighed.costs a.weighed.depths) × RunsKeep d a

-- A run leaves the world at rest.
abbrev pub RunsRest : Type 0
RunsRest =
    (d : Definition) → WellRead d → (a : Accepted d) → (peers : List Peer) → PoolReady d peers →
    (events : List Event) → Each (EventRead d) events → (replies : List Reply) → Each (Fits d) replies → (tally : Tally) (w : World) →
    IsRun d peers events replies tally w → IsResting d a w

-- A run over these events, with replies that fit.
pub record HasRun (d : Definition) (peers : List Peer) (events : List Event) : Type 0 where
  pub replies : List Reply
  pub fit : Each (Fits d) replies
  pub tally : Tally
  pub last : World
  pub run : IsRun d peers events replies tally last

-- Each list of events has a run.
abbrev pub RunsAreThere : Type 0
RunsAreThere =
    (d : Definition) → WellRead d → Accepted d → (peers : List Peer) → PoolReady d peers → (events : List Event) →
    Each (EventRead d) events → HasRun d peers events
