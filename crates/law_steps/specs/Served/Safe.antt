-- A configuration from which no run is stuck.
use Rattle.std.specs.Prelude.{◌≡◌, ℕ, ◌≤◌, List}
use Rattle.ui_machine.specs.Definition.{Definition}
use Rattle.ui_machine.specs.State.Peers.{Peer, Reply}
use Rattle.ui_machine.specs.State.Tasks.{Event}
use Rattle.ui_machine.specs.State.Config.{Config}
use Rattle.ui_machine.specs.Runs.{Fits, Reaches}
use Rattle.law_typing.specs.Graph.{graph}
use Rattle.law_typing.specs.Graph.Depths.{depth}
use Rattle.law_typing.specs.Verdict.Accepted.{Each, Accepted}
use Rattle.law_typing.specs.Good.Agenda.{frames}
use Rattle.law_typing.specs.Laws.WellRead.{WellRead}
use Rattle.law_typing.specs.Laws.StepsKeepGood.{PoolReady}
use Rattle.law_steps.specs.Served.Dispatches.{IsUnstuck, Throughout}
use Rattle.law_steps.specs.Served.Sessions.{EventRead, Dispatch, beginning_of}

-- whatever it comes to over replies that fit is not stuck, and has no more than so many frames
pub record Safe (d : Definition) (most : ℕ) (c : Config) : Type 0 where
  pub unstuck : Throughout d c (IsUnstuck d)
  pub shallow : Throughout d c (λ at. frames at.agenda ≤ most)

-- where a dispatch of an accepted definition begins it is safe, within the depth of the report
abbrev pub BeginsSafe : Type 0
BeginsSafe =
    (d : Definition) → WellRead d → (a : Accepted d) → (peers : List Peer) → PoolReady d peers → (events : List Event) →
    Each (EventRead d) events → (x : Dispatch d peers events) → Safe d (depth (graph d) a.weighed.depths) (beginning_of x)

-- what a safe configuration comes to, over replies that fit, is safe
abbrev pub SafeStays : Type 0
SafeStays =
    (d : Definition) (most : ℕ) (c : Config) → Safe d most c → (replies : List Reply) → Each (Fits d) replies → (at : Config) →
    Reaches d replies c at → Safe d most at
