-- A step adds lines to the transcript, and never reads it: so what was said before makes no difference to a run.
use Rattle.std.specs.Prelude.{◌≡◌, ℕ, List, ◌++◌, Option, Ok, Err}
use Rattle.ui_machine.specs.declared.arm.Halt.{Halt}
use Rattle.ui_machine.specs.Definition.{Definition}
use Rattle.ui_machine.specs.State.Peers.{Reply}
use Rattle.ui_machine.specs.State.Tasks.{Event}
use Rattle.ui_machine.specs.State.Config.{World, Config}
use Rattle.ui_machine.specs.Outcome.{Answer}
use Rattle.ui_machine.specs.Steps.{step, question}
use Rattle.ui_machine.specs.Runs.{Steps, Reaches, Dispatches, Halts, Tally, Serves, ServesAll, HaltsIn}

-- the world with these lines in front of its own
abbrev pub fronted : List (List ℕ) → World → World
fronted front w = record w { transcript = front ++ w.transcript }

-- the configuration with these lines in front of its world's own
abbrev pub fronted_at : List (List ℕ) → Config → Config
fronted_at front c = record c { world = fronted front c.world }

-- what a part of a step leads to, changed; the arm stays
abbrev pub mapped : {A B : Type 0} → (A → B) → Answer A → Answer B
mapped f (Ok x) = Ok (f x)
mapped f (Err arm) = Err arm

-- ** steps

-- with lines in front a step leads to the same behind them, or is stuck by the same arm
abbrev pub StepAppends : Type 0
StepAppends =
    (front : List (List ℕ)) (d : Definition) (reply : Option Reply) (c : Config) →
    step d reply (fronted_at front c) ≡ mapped (fronted_at front) (step d reply c)

-- and with lines in front a step asks the same
abbrev pub QuestionStays : Type 0
QuestionStays = (front : List (List ℕ)) (d : Definition) (c : Config) → question d (fronted_at front c) ≡ question d c

-- ** runs

-- what leads from one configuration to another leads from the one with lines in front to the other with them
abbrev pub LeadsBehind : (Config → Config → Type 0) → Type 0
LeadsBehind Leads = (front : List (List ℕ)) (c e : Config) → Leads c e → Leads (fronted_at front c) (fronted_at front e)

-- steps, however many, with the same replies
abbrev pub StepsAppend : Type 0
StepsAppend = (d : Definition) (n : ℕ) (replies : List Reply) → LeadsBehind (Steps d n replies) × LeadsBehind (Reaches d replies)

-- a dispatch comes to its end after as many counted steps
abbrev pub DispatchAppends : Type 0
DispatchAppends =
    (front : List (List ℕ)) (d : Definition) (replies : List Reply) (c : Config) (count : ℕ) (new : World) →
    Dispatches d replies c count new → Dispatches d replies (fronted_at front c) count (fronted front new)

-- or halts for the same reason, and has shown the same lines behind
abbrev pub HaltAppends : Type 0
HaltAppends =
    (front : List (List ℕ)) (d : Definition) (replies : List Reply) (c : Config) (halt : Halt) (shown : List (List ℕ)) →
    Halts d replies c halt shown → Halts d replies (fronted_at front c) halt (front ++ shown)

-- an event is served in the same way, and so is a list of events
abbrev pub ServesBehind : (List Reply → World → Tally → World → Type 0) → Type 0
ServesBehind Leads =
    (front : List (List ℕ)) (replies : List Reply) (w : World) (tally : Tally) (new : World) →
    Leads replies w tally new → Leads replies (fronted front w) tally (fronted front new)

abbrev pub EventAppends : Type 0
EventAppends = (d : Definition) (event : Event) → ServesBehind (Serves d event)

abbrev pub EventsAppend : Type 0
EventsAppend = (d : Definition) (events : List Event) → ServesBehind (ServesAll d events)

-- or halts in the same way
abbrev pub EventHaltAppends : Type 0
EventHaltAppends =
    (front : List (List ℕ)) (d : Definition) (event : Event) (replies : List Reply) (w : World) (halt : Halt) (shown : List (List ℕ)) →
    HaltsIn d event replies w halt shown → HaltsIn d event replies (fronted front w) halt (front ++ shown)
