-- The dispatches of a run: that of the build, one for each request that is served, and one for each source that runs in a turn.
use Rattle.std.specs.Prelude.{◌≡◌, ℕ, ⊤, List, ◌∷◌, ◌++◌, None, Some}
use Rattle.ui_machine.specs.Definition.{Definition}
use Rattle.ui_machine.specs.State.Peers.{Peer, Reply}
use Rattle.ui_machine.specs.State.Sources.{Source, source_of}
use Rattle.ui_machine.specs.State.Tasks.{Due, Event, Request}
use Rattle.ui_machine.specs.State.Tasks as config
use Rattle.ui_machine.specs.State.Config.{World, Config}
use Rattle.ui_machine.specs.Rules.Events.{refusal}
use Rattle.ui_machine.specs.Rules.MainLoop.{ready_at, turned}
use Rattle.ui_machine.specs.Runs.{Fits, Tally, RunsSources, IsRun, beginning, of_build, of_request}
use Rattle.law_typing.specs.Graph.Channels.{Entry}
use Rattle.law_typing.specs.Graph.Channels as entries
use Rattle.law_typing.specs.Verdict.Accepted.{Each}
use Rattle.law_typing.specs.Good.Requests.{RequestRead, entry_of}

-- an event that reading accepts: what a request names is there and fits; a turn may be of any moment
abbrev pub EventRead : Definition → Event → Type 0
EventRead d (config.request r) = RequestRead d r
EventRead d (config.turn moment) = ⊤

-- A run over the events before this one has led to the world, where all replies fit, and the event is not refused there.
pub record Serves (d : Definition) (peers : List Peer) (events : List Event) (event : Event) (w : World) : Type 0 where
  pub before : List Event
  pub later : List Event
  pub is : events ≡ before ++ event ∷ later
  pub replies : List Reply
  pub fit : Each (Fits d) replies
  pub tally : Tally
  pub run : IsRun d peers before replies tally w
  pub accepted : refusal w event ≡ None

-- In a turn from the world w the sources before this one have run and led to the world v, where all replies fit, and it is still attached.
pub record Runs (d : Definition) (w : World) (moment number : ℕ) (v : World) (s : Source) : Type 0 where
  pub before : List ℕ
  pub later : List ℕ
  pub is : ready_at w moment ≡ before ++ number ∷ later
  pub replies : List Reply
  pub fit : Each (Fits d) replies
  pub tally : Tally
  pub run : RunsSources d before replies (turned d w moment) tally v
  pub stands : source_of number v.sources ≡ Some s

-- a dispatch of a run over these events
pub data Dispatch (d : Definition) (peers : List Peer) (events : List Event) : Type 0 where
  building : Dispatch d peers events
  serving : (r : Request) (w : World) → Serves d peers events (config.request r) w → Dispatch d peers events
  turning : (moment : ℕ) (w : World) → Serves d peers events (config.turn moment) w → (number : ℕ) (v : World) (s : Source) →
      Runs d w moment number v s → Dispatch d peers events

-- its entry
abbrev pub entry_to : {d : Definition} {peers : List Peer} {events : List Event} → Dispatch d peers events → Entry
entry_to building = entries.build
entry_to {d} (serving r w serves) = entry_of d r
entry_to (turning moment w serves number v s runs) = entries.source s.program

-- where it begins
abbrev pub beginning_of : {d : Definition} {peers : List Peer} {events : List Event} → Dispatch d peers events → Config
beginning_of {d} {peers} building = of_build d peers
beginning_of (serving r w serves) = of_request w r
beginning_of (turning moment w serves number v s runs) = beginning v (Due number)
