-- Runs of the machine: steps, dispatches, events, and whole runs.
use Rattle.std.specs.Prelude.{Err, IsSome, IsTrue, List, None, Ok, Option, Some, [], length, option_map, slice_get, suc, zero, ℕ, ◌%◌, ◌++◌, ◌+◌, ◌^◌, ◌∷◌, ◌≡◌, ◌≤◌}
use Rattle.ui_machine.specs.declared.arm.Arm.{Arm}
use Rattle.ui_machine.specs.declared.arm.Halt.{Halt}
use Rattle.ui_machine.specs.declared.arm.Halt.TheVariants as halts
use Rattle.ui_machine.specs.Definition.{Definition}
use Rattle.ui_machine.specs.Definition.Signals.{Method}
use Rattle.ui_machine.specs.Definition.Values.{Value}
use Rattle.ui_machine.specs.Definition.Values as values
use Rattle.ui_machine.specs.Instructions.Arithmetic.{most_bytes}
use Rattle.ui_machine.specs.Output.Lines as lines
use Rattle.ui_machine.specs.Rules.Build.{build_items}
use Rattle.ui_machine.specs.Rules.Events.{Refusal, refusal}
use Rattle.ui_machine.specs.Rules.MainLoop.{ready_at, turned}
use Rattle.ui_machine.specs.Rules.Transform.{kind_fits}
use Rattle.ui_machine.specs.State.Config.{Config, World, said, untold}
use Rattle.ui_machine.specs.State.Peers.{Peer, PeerState, Question, Reply}
use Rattle.ui_machine.specs.State.References.{mentions, next_unheld}
use Rattle.ui_machine.specs.State.Sources.{Source, source_of}
use Rattle.ui_machine.specs.State.Tasks.{Building, Handling, Due, Event, Request, Task}
use Rattle.ui_machine.specs.State.Tasks as config
use Rattle.ui_machine.specs.Steps.{question, step}

-- ** what peers reply

-- the question that a reply is to, if there is one
abbrev pub question_in : Option Reply → Option Question
question_in reply = option_map (λ (r : Reply). r.question) reply

-- a count that goes round at 2^64
abbrev pub one_more : ℕ → ℕ
one_more n = (n + 1) % 2 ^ 64

-- the count of faults after an answer
abbrev pub faults_after : Option Value → ℕ → ℕ
faults_after None n = one_more n
faults_after (Some v) n = n

-- a text is short enough
abbrev pub IsShort : Value → Type 0
IsShort (values.text (Some s)) = length s ≤ most_bytes
IsShort _ = Unit {0}

-- an answer is of the method's result kind
abbrev pub AnswerFits : Definition → Option Method → Option Value → Type 0
AnswerFits d m None = Unit {0}
AnswerFits d None (Some v) = ⊥
AnswerFits d (Some m) (Some v) = IsTrue (kind_fits (λ _. None) d.types v m.result) × IsShort v

-- what every peer keeps to: its shape, its openness, its counts, and the kind of its answers
pub record Fits (d : Definition) (r : Reply) : Type 0 where
  pub shape : r.state.shape ≡ r.question.state.shape
  pub openness : r.state.is_open ≡ r.question.state.is_open
  pub calls : r.state.calls ≡ one_more r.question.state.calls
  pub faults : r.state.faults ≡ faults_after r.answer r.question.state.faults
  pub answer : AnswerFits d (slice_get r.question.state.shape r.question.method) r.answer

-- what a peer of a given relation may reply: asked so it may answer this, a value or a fault, and go to that state
abbrev pub Allowed : (Question → Option Value → PeerState → Type 0) → Reply → Type 0
Allowed relation r = relation r.question r.answer r.state

-- ** steps

-- one step, with the reply of the peer that is asked; where none is asked there is no reply
pub record Step (d : Definition) (reply : Option Reply) (c e : Config) : Type 0 where
  pub asks : question d c ≡ question_in reply
  pub leads : step d reply c ≡ Ok e

-- one reply, or none
abbrev pub listed : Option Reply → List Reply
listed None = []
listed (Some reply) = reply ∷ []

-- a step, and then what follows it
pub record Goes (d : Definition) (replies : List Reply) (c : Config) (Follows : List Reply → Config → Type 0) : Type 0 where
  pub reply : Option Reply
  pub later : List Reply
  pub mid : Config
  pub replied : replies ≡ listed reply ++ later
  pub step : Step d reply c mid
  pub follows : Follows later mid

-- n steps lead from one configuration to the other, and their peers give these replies
abbrev pub Steps : Definition → ℕ → List Reply → Config → Config → Type 0
Steps d zero replies c e = (replies ≡ []) × (c ≡ e)
Steps d (suc n) replies c e = Goes d replies c (λ later mid. Steps d n later mid e)

-- some number of steps leads from one configuration to the other
pub record Reaches (d : Definition) (replies : List Reply) (c e : Config) : Type 0 where
  pub count : ℕ
  pub steps : Steps d count replies c e

-- nothing is left to do: the agenda is empty, nothing floats, and each object that lives is held
pub record HasEnded (d : Definition) (c : Config) : Type 0 where
  pub agenda : c.agenda ≡ []
  pub floating : c.world.floating ≡ []
  pub held : next_unheld (mentions d c) c.world.objects ≡ None

-- the next step is stuck by the arm
pub record IsStuck (d : Definition) (c : Config) (arm : Arm) : Type 0 where
  pub reply : Option Reply
  pub asks : question d c ≡ question_in reply
  pub stuck : step d reply c ≡ Err arm

-- ** dispatches

-- a dispatch from a configuration comes to its end after so many counted steps, and leaves that world
pub record Dispatches (d : Definition) (replies : List Reply) (c : Config) (count : ℕ) (new : World) : Type 0 where
  pub at : Config
  pub reached : Reaches d replies c at
  pub ended : HasEnded d at
  pub counts : at.counted ≡ count
  pub leaves : said d at.world (lines.end at.counted) ≡ new

-- why a dispatch goes no further: it found no memory, of which the machine knows nothing, or it is stuck
abbrev pub HaltsAt : Definition → Config → Halt → Type 0
HaltsAt d c halts.OutOfMemory = Unit {0}
HaltsAt d c (halts.Stuck arm) = IsStuck d c arm

-- a dispatch halts at a configuration that it reaches, and has shown these lines by then
pub record Halts (d : Definition) (replies : List Reply) (c : Config) (halt : Halt) (shown : List (List ℕ)) : Type 0 where
  pub at : Config
  pub reached : Reaches d replies c at
  pub stops : HaltsAt d at halt
  pub lines : at.world.transcript ≡ shown

-- ** where dispatches begin

-- a dispatch begins with one task, and has counted nothing
abbrev pub beginning : World → Task → Config
beginning w task = record { world = untold w; agenda = task ∷ []; counted = 0 }

-- where a request's dispatch begins
abbrev pub of_request : World → Request → Config
of_request w request = beginning w (Handling request)

-- the world before anything is built
abbrev pub first_world : Definition → List Peer → World
first_world d peers = record {
  objects = [];
  handlers = [];
  last_handler = 0;
  bindings = [];
  sources = [];
  last_source = 0;
  floating = [];
  builder = [];
  peers = peers;
  moment = 0;
  transcript = [];
  result = None;
}

-- the build begins with its line
abbrev pub of_build : Definition → List Peer → Config
of_build d peers = beginning (said d (first_world d peers) lines.build) (Building (build_items d))

-- ** what events come to

-- how many dispatches there were, and their counted steps together
pub record Tally : Type 0 where
  pub dispatches : ℕ
  pub steps : ℕ

-- no dispatch
abbrev pub no_dispatch : Tally
no_dispatch = record { dispatches = 0; steps = 0 }

-- one dispatch of so many steps
abbrev pub one_dispatch : ℕ → Tally
one_dispatch steps = record { dispatches = 1; steps = steps }

-- both together
abbrev pub tallied : Tally → Tally → Tally
tallied first later = record { dispatches = first.dispatches + later.dispatches; steps = first.steps + later.steps }

-- two parts, one after the other
pub record Then (First Later : List Reply → World → Tally → World → Type 0)
    (replies : List Reply) (w : World) (tally : Tally) (new : World) : Type 0 where
  pub first : List Reply
  pub later : List Reply
  pub mid : World
  pub first_tally : Tally
  pub later_tally : Tally
  pub replied : replies ≡ first ++ later
  pub counts : tally ≡ tallied first_tally later_tally
  pub begins : First first w first_tally mid
  pub goes_on : Later later mid later_tally new

-- nothing is done
pub record Rests (replies : List Reply) (w : World) (tally : Tally) (new : World) : Type 0 where
  pub replied : replies ≡ []
  pub counts : tally ≡ no_dispatch
  pub same : w ≡ new

-- one dispatch from this configuration
pub record Carries (d : Definition) (c : Config) (replies : List Reply) (tally : Tally) (new : World) : Type 0 where
  pub steps : ℕ
  pub counts : tally ≡ one_dispatch steps
  pub dispatches : Dispatches d replies c steps new

-- a turn's source is run if it is still attached
abbrev pub RunsSource : Definition → ℕ → Option Source → List Reply → World → Tally → World → Type 0
RunsSource d number None replies w tally new = Rests replies w tally new
RunsSource d number (Some s) replies w tally new = Carries d (beginning w (Due number)) replies tally new

-- the sources of a turn run one after the other, each in a dispatch of its own
abbrev pub RunsSources : Definition → List ℕ → List Reply → World → Tally → World → Type 0
RunsSources d [] replies w tally new = Rests replies w tally new
RunsSources d (number ∷ more) replies w tally new =
    Then (λ first v. RunsSource d number (source_of number v.sources) first v) (RunsSources d more) replies w tally new

-- what an event that is not refused does
abbrev pub Does : Definition → Event → List Reply → World → Tally → World → Type 0
Does d (config.request r) replies w tally new = Carries d (of_request w r) replies tally new
Does d (config.turn moment) replies w tally new = RunsSources d (ready_at w moment) replies (turned d w moment) tally new

-- what comes of an event
abbrev pub Comes : Definition → Event → Option Refusal → List Reply → World → Tally → World → Type 0
Comes d event (Some why) replies w tally new = Rests replies w tally new
Comes d event None replies w tally new = Does d event replies w tally new

-- an event leads from a world to another
abbrev pub Serves : Definition → Event → List Reply → World → Tally → World → Type 0
Serves d event replies w tally new = Comes d event (refusal w event) replies w tally new

-- a list of events leads from a world to another, one event after the other
abbrev pub ServesAll : Definition → List Event → List Reply → World → Tally → World → Type 0
ServesAll d [] replies w tally new = Rests replies w tally new
ServesAll d (event ∷ events) replies w tally new = Then (Serves d event) (ServesAll d events) replies w tally new

-- a run: the build, and then the events
abbrev pub IsRun : Definition → List Peer → List Event → List Reply → Tally → World → Type 0
IsRun d peers events replies tally new =
    Then (λ first w. Carries d (of_build d peers) first) (ServesAll d events) replies (first_world d peers) tally new

-- ** where events halt

-- some sources of a turn have run, and then the dispatch of the next halts
pub record TurnHalts (d : Definition) (moment : ℕ) (replies : List Reply) (w : World) (halt : Halt) (shown : List (List ℕ)) : Type 0 where
  pub done : List ℕ
  pub number : ℕ
  pub more : List ℕ
  pub sources : ready_at w moment ≡ done ++ number ∷ more
  pub first : List Reply
  pub later : List Reply
  pub replied : replies ≡ first ++ later
  pub mid : World
  pub tally : Tally
  pub runs : RunsSources d done first (turned d w moment) tally mid
  pub stands : IsSome (source_of number mid.sources)
  pub halts : Halts d later (beginning mid (Due number)) halt shown

-- A turn for which no memory is found before a source of it runs, or where none is ready: at the list of its sources, or at its line. It
-- has done nothing.
pub record TurnStops (replies : List Reply) (w : World) (halt : Halt) (shown : List (List ℕ)) : Type 0 where
  pub memory : halt ≡ halts.OutOfMemory
  pub asked : replies ≡ []
  pub lines : w.transcript ≡ shown

-- how a turn halts: as it begins, or in a dispatch of one of its sources
pub data TurnIsCut (d : Definition) (moment : ℕ) (replies : List Reply) (w : World) (halt : Halt) (shown : List (List ℕ)) : Type 0 where
  at_its_beginning : TurnStops replies w halt shown → TurnIsCut d moment replies w halt shown
  at_a_source : TurnHalts d moment replies w halt shown → TurnIsCut d moment replies w halt shown

-- an event that is not refused halts
abbrev pub HaltsIn : Definition → Event → List Reply → World → Halt → List (List ℕ) → Type 0
HaltsIn d (config.request r) replies w halt shown = Halts d replies (of_request w r) halt shown
HaltsIn d (config.turn moment) replies w halt shown = TurnIsCut d moment replies w halt shown
