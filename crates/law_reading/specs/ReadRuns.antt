-- The promise, of bytes: what is promised of runs of an accepted definition that is well read, over events that reading accepts, is so of
-- each accepted definition that bytes denote, over the events that lines denote.
use Rattle.std.specs.Prelude.{◌≡◌, ℕ, List, [], ◌∷◌, Result, Ok, Err}
use Rattle.std.specs.List.{flat_map}
use Rattle.ui_machine.specs.declared.arm.Halt.{Halt}
use Rattle.ui_machine.specs.declared.arm.Halt.TheVariants as halts
use Rattle.ui_machine.specs.Definition.{Definition}
use Rattle.ui_machine.specs.State.Peers.{Peer, Reply}
use Rattle.ui_machine.specs.State.Tasks.{Event}
use Rattle.ui_machine.specs.State.Config.{World}
use Rattle.ui_machine.specs.Runs.{Fits, Tally, IsRun, HaltsIn}
use Rattle.definition_format.specs.EventMeaning.{EventRefusal, event_denoted}
use Rattle.law_typing.specs.Graph.{graph}
use Rattle.law_typing.specs.Verdict.{verdict, accepted}
use Rattle.law_typing.specs.Verdict.Accepted.{Each, Accepted}
use Rattle.law_typing.specs.Verdict.Report.{report}
use Rattle.law_typing.specs.Laws.StepsKeepGood.{PoolReady, IsResting}
use Rattle.law_steps.specs.Served.Dispatches.{Keeps}
use Rattle.law_steps.specs.Served.Halting.{EventLastFits}
use Rattle.law_steps.specs.Served.NeverStuck.{HasRun}
use Rattle.law_steps.specs.Served.Sessions.{Dispatch, Serves, entry_to, beginning_of}
use Rattle.law_reading.specs.Reading.{OfEachRead}

-- ** events

-- the event of a line that denotes one
abbrev pub event_if : Result Event EventRefusal → List Event
event_if (Ok event) = event ∷ []
event_if (Err refusal) = []

-- the events that lines denote, in the lines' order
abbrev pub events_in : Definition → List (List ℕ) → List Event
events_in d lines = flat_map (λ line. event_if (event_denoted d line)) lines

-- ** what is promised

-- With a pool that is ready, each dispatch of each run over lines keeps what is promised.
abbrev pub LinesKeep : (d : Definition) → Accepted d → Type 0
LinesKeep d a =
    (peers : List Peer) → PoolReady d peers → (lines : List (List ℕ)) → (x : Dispatch d peers (events_in d lines)) →
    Keeps d a (entry_to x) (beginning_of x)

-- So it is of each accepted definition that bytes denote.
abbrev pub ReadNeverStuck : Type 0
ReadNeverStuck = OfEachRead (λ d. (a : Accepted d) → LinesKeep d a)

-- So it is of each that is judged to be accepted, by the numbers of its report.
abbrev pub ReadReportIsKept : Type 0
ReadReportIsKept = OfEachRead (λ d. (told : List (List ℕ)) → verdict d ≡ accepted told →
    (a : Accepted d) × (told ≡ report d (graph d) a.weighed.ranks a.weighed.costs a.weighed.depths) × LinesKeep d a)

-- A run leaves the world at rest.
abbrev pub ReadRunsRest : Type 0
ReadRunsRest = OfEachRead (λ d. (a : Accepted d) → (peers : List Peer) → PoolReady d peers → (lines : List (List ℕ)) →
    (replies : List Reply) → Each (Fits d) replies → (tally : Tally) (w : World) → IsRun d peers (events_in d lines) replies tally w →
    IsResting d a w)

-- All lines together have a run.
abbrev pub ReadRunsAreThere : Type 0
ReadRunsAreThere = OfEachRead (λ d. Accepted d → (peers : List Peer) → PoolReady d peers → (lines : List (List ℕ)) →
    HasRun d peers (events_in d lines))

-- Where an event halts no memory is found.
abbrev pub ReadHaltsForMemory : Type 0
ReadHaltsForMemory = OfEachRead (λ d. Accepted d → (peers : List Peer) → PoolReady d peers → (lines : List (List ℕ)) →
    (event : Event) (w : World) → Serves d peers (events_in d lines) event w → (replies : List Reply) → Each (Fits d) replies →
    (halt : Halt) (shown : List (List ℕ)) → (h : HaltsIn d event replies w halt shown) → EventLastFits d event replies w halt shown h →
    halt ≡ halts.OutOfMemory)
