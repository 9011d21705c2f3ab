-- Where an event of a run halts, no memory was found: the machine is not stuck there.
use Rattle.std.specs.Prelude.{◌≡◌, ℕ, ⊤, List}
use Rattle.ui_machine.specs.declared.arm.Halt.{Halt}
use Rattle.ui_machine.specs.declared.arm.Halt.TheVariants as halts
use Rattle.ui_machine.specs.Definition.{Definition}
use Rattle.ui_machine.specs.State.Peers.{Peer, Reply}
use Rattle.ui_machine.specs.State.Tasks.{Event}
use Rattle.ui_machine.specs.State.Tasks as config
use Rattle.ui_machine.specs.State.Config.{World}
use Rattle.ui_machine.specs.Runs.{Fits, HaltsIn, at_a_source, at_its_beginning}
use Rattle.law_typing.specs.Verdict.Accepted.{Each, Accepted}
use Rattle.law_typing.specs.Laws.WellRead.{WellRead}
use Rattle.law_typing.specs.Laws.StepsKeepGood.{PoolReady}
use Rattle.law_steps.specs.Served.Dispatches.{LastFits}
use Rattle.law_steps.specs.Served.Sessions.{EventRead, Serves}

-- the reply that the stuck step of an event takes, if it takes one, fits
abbrev pub EventLastFits : (d : Definition) (event : Event) (replies : List Reply) (w : World) (halt : Halt) (shown : List (List ℕ)) →
    HaltsIn d event replies w halt shown → Type 0
EventLastFits d (config.request r) replies w halt shown h = LastFits d h.at halt h.stops
EventLastFits d (config.turn moment) replies w halt shown (at_its_beginning stops) = ⊤
EventLastFits d (config.turn moment) replies w halt shown (at_a_source h) = LastFits d h.halts.at halt h.halts.stops

-- an event that a run has come to, and that is not refused there, halts nowhere but where no memory is found
abbrev pub EventsHaltForMemory : Type 0
EventsHaltForMemory =
    (d : Definition) → WellRead d → Accepted d → (peers : List Peer) → PoolReady d peers → (events : List Event) →
    Each (EventRead d) events → (event : Event) (w : World) → Serves d peers events event w →
    (replies : List Reply) → Each (Fits d) replies → (halt : Halt) (shown : List (List ℕ)) → (h : HaltsIn d event replies w halt shown) →
    EventLastFits d event replies w halt shown h → halt ≡ halts.OutOfMemory
