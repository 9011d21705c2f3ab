-- Events that have begun and not ended: where the machine is in one of their dispatches, and what comes of going on.
use Rattle.std.specs.Prelude.{◌≡◌, ◌≤◌, ◌+◌, ◌*◌, ℕ, ⊤, List, [], ◌∷◌, ◌++◌, length, option_map, Option, Some, None, Result, Ok, Err}
use Rattle.std.specs.declared.alloc.AllocError.{AllocError}
use Rattle.ui_machine.specs.Definition.{Definition}
use Rattle.ui_machine.specs.Rules.Events.{refusal}
use Rattle.ui_machine.specs.Rules.MainLoop.{ready_at, turned}
use Rattle.ui_machine.specs.Runs.{Carries, HasEnded, Reaches, RunsSources, Tally, beginning, no_dispatch, of_request}
use Rattle.ui_machine.specs.State.Config.{Config, World}
use Rattle.ui_machine.specs.State.Peers.{Reply}
use Rattle.ui_machine.specs.State.Sources.{Source, source_of}
use Rattle.ui_machine.specs.State.Tasks.{Due, Event, Request}
use Rattle.ui_machine.specs.State.Tasks as config
use Rattle.ui_machine.specs.Steps.{most_steps}
use Rattle.g_values.specs.View.{value_view}
use Rattle.law_steps.specs.Served.Sessions.{EventRead}
use Rattle.law_typing.specs.Verdict.Accepted.{Each}
use Rattle.machine_laws.specs.FrontLaws.{fronted, fronted_at}
use Rattle.main_context.specs.Attached.{next_source, numbers_after}
use Rattle.native_peers.specs.Seen.{Relations}
use Rattle.engine_dispatches.specs.declared.courses.Course.{Course}
use Rattle.engine_dispatches.specs.declared.courses.Progress.{Progress}
use Rattle.engine_dispatches.specs.declared.courses.Progress.TheVariants as progress
use Rattle.engine_dispatches.specs.declared.dispatches.Reply as code
use Rattle.engine_dispatches.specs.Following.{Follows, Point, Stands}
use Rattle.engine_dispatches.specs.PoolView.{GivenBy, with_seen, world_at}
use Rattle.engine_dispatches.specs.Promises.{Rests}
use Rattle.engine_dispatches.specs.Stepped.{IsCutOff}
use Rattle.engine_dispatches.specs.TurnView.{IsSmall}
use Rattle.engine_dispatches.specs.Ways.{serving, tally_of}

-- ** the machine

-- a request's dispatch begins there; it is the only one
pub record RequestStarts (d : Definition) (r : Request) (left : List ℕ) (first : List Reply) (w : World) (tally : Tally) (c : Config) : Type 0 where
  pub none_left : left ≡ []
  pub none_before : first ≡ []
  pub counts : tally ≡ no_dispatch
  pub is : c ≡ of_request w r

-- the dispatch of a turn's source begins there, once those before it have run; those that are left come after it
pub record SourceStarts (d : Definition) (moment : ℕ) (left : List ℕ) (first : List Reply) (w : World) (tally : Tally) (c : Config) : Type 0 where
  pub done : List ℕ
  pub number : ℕ
  pub sources : ready_at w moment ≡ done ++ number ∷ left
  pub mid : World
  pub runs : RunsSources d done first (turned d w moment) tally mid
  pub source : Source
  pub stands : source_of number mid.sources ≡ Some source
  pub is : c ≡ beginning mid (Due number)

-- a dispatch of an event begins there, by these replies and counts of those before it
abbrev pub Starts : Definition → Event → List ℕ → List Reply → World → Tally → Config → Type 0
Starts d (config.request r) left first w tally c = RequestStarts d r left first w tally c
Starts d (config.turn moment) left first w tally c = SourceStarts d moment left first w tally c

-- the sources of a turn but these have run
pub record SourcesRan (d : Definition) (moment : ℕ) (left : List ℕ) (replies : List Reply) (w : World) (tally : Tally) (new : World) : Type 0 where
  pub done : List ℕ
  pub sources : ready_at w moment ≡ done ++ left
  pub runs : RunsSources d done replies (turned d w moment) tally new

-- no dispatch of an event is under way, and these sources are left
abbrev pub LeadsTo : Definition → Event → List ℕ → List Reply → World → Tally → World → Type 0
LeadsTo d (config.request r) left replies w tally new = (left ≡ []) × Carries d (of_request w r) replies tally new
LeadsTo d (config.turn moment) left replies w tally new = SourcesRan d moment left replies w tally new

-- an event that was read and is not refused, in a world at rest
pub record MayBegin (d : Definition) (event : Event) (w : World) : Type 0 where
  pub read : EventRead d event
  pub goes : refusal w event ≡ None
  pub rests : Rests d w

-- ** the engine beside its pool

-- the sources that are left of a turn; of a request there are none
abbrev pub sources_left : Option (List ℕ) → List ℕ
sources_left None = []
sources_left (Some numbers) = numbers

-- a point, with these lines in front of those that are kept there
abbrev pub fronted_point : List (List ℕ) → Point → Point
fronted_point front p = record { pool = p.pool; view = fronted_at front p.view }

-- An event has come so far, from a world: it is in a dispatch in which the machine is where the engine and the pool are. In front are the
-- lines that are no longer kept.
pub record IsUnderWay (d : Definition) (may : Relations) (event : Event) (w : World) (front : List (List ℕ)) (course : Course) (p : Point) : Type 0 where
  pub may_begin : MayBegin d event w
  pub first : List Reply
  pub given_first : Each (GivenBy may) first
  pub start : Config
  pub starts : Starts d event (sources_left course.left) first w (tally_of course.so_far) start
  pub later : List Reply
  pub given_later : Each (GivenBy may) later
  pub at : Config
  pub reached : Reaches d later start at
  pub stands : Stands (fronted_point front p) at
  pub dispatches : course.so_far.dispatches + (length (sources_left course.left) + 1) ≤ 256
  pub steps : course.so_far.steps ≤ course.so_far.dispatches * most_steps
  pub counted : p.view.counted ≤ most_steps

-- so it is of some event
pub record GoesOn (d : Definition) (may : Relations) (course : Course) (p : Point) : Type 0 where
  pub event : Event
  pub from : World
  pub front : List (List ℕ)
  pub under_way : IsUnderWay d may event from front course p

-- what no dispatch has led to
abbrev pub nothing_yet : code.Reply
nothing_yet = record { result = None; dispatches = 0; steps = 0 }

-- An event has come so far, from a world: no dispatch of it is under way, and these sources are left.
pub record HasCome (d : Definition) (may : Relations) (event : Event) (w : World) (left : List ℕ) (reply : code.Reply) (new : World) : Type 0 where
  pub may_begin : MayBegin d event w
  pub replies : List Reply
  pub given : Each (GivenBy may) replies
  pub leads : LeadsTo d event left replies w (tally_of reply) new
  pub value : option_map value_view reply.result ≡ new.result
  pub small : IsSmall left reply

-- What comes of going on with an event from a world, of which these lines are no longer kept: it has come so far, it has ended and this is
-- what it led to, or no memory was found.
abbrev pub Proceeds : Result Progress AllocError → Definition → Relations → Event → World → List (List ℕ) → Point → Type 0
Proceeds (Ok (progress.UnderWay course)) d may event w front p = IsUnderWay d may event w front course p
Proceeds (Ok (progress.Ended reply)) d may event w front p =
    (serving may d w event).to (tally_of reply) (fronted front (world_at p.pool p.view.world)) × (option_map value_view reply.result ≡ p.view.world.result)
Proceeds (Err _) d may event w front p = (serving may d w event).breaks_off (with_seen p.pool p.view.world.peers) (front ++ p.view.world.transcript)

-- where it has ended
abbrev pub IfHasEnded : Progress → (code.Reply → Type 0) → Type 0
IfHasEnded (progress.Ended reply) P = P reply
IfHasEnded (progress.UnderWay course) P = ⊤

-- where it goes on
abbrev pub IfGoesOn : Progress → (Course → Type 0) → Type 0
IfGoesOn (progress.UnderWay course) P = P course
IfGoesOn (progress.Ended reply) P = ⊤

-- the same where memory was found
abbrev pub IfEnded : {E : Type 0} → Result Progress E → (code.Reply → Type 0) → Type 0
IfEnded (Ok p) P = IfHasEnded p P
IfEnded (Err _) P = ⊤

abbrev pub IfUnderWay : {E : Type 0} → Result Progress E → (Course → Type 0) → Type 0
IfUnderWay (Ok p) P = IfGoesOn p P
IfUnderWay (Err _) P = ⊤

-- ** parts of that

-- the dispatch of the next source begins
pub record NextBegins (old : Course) (w : World) (new : Course) (view : Config) : Type 0 where
  pub source : Source
  pub next : next_source w.sources (sources_left old.left) ≡ Some source
  pub left : sources_left new.left ≡ numbers_after w.sources (sources_left old.left)
  pub so_far : new.so_far ≡ old.so_far
  pub view_is : view ≡ beginning w (Due source.number)

-- the dispatch of the next source, if there is one
abbrev pub BeginsNext : Progress → Course → World → Config → Type 0
BeginsNext (progress.UnderWay new) old w view = NextBegins old w new view
BeginsNext (progress.Ended reply) old w view = (reply ≡ old.so_far) × (next_source w.sources (sources_left old.left) ≡ None)

-- at most so many counted steps; where some are left, all have been made
abbrev pub RanFor : Result (Option ℕ) AllocError → Definition → Relations → Point → Point → Type 0
RanFor (Ok (Some left)) d may p q = Follows d may p q × HasEnded d q.view
RanFor (Ok None) d may p q = Follows d may p q
RanFor (Err _) d may p q = IsCutOff d may p q

-- how many of them are left
abbrev pub steps_left : Option ℕ → ℕ
steps_left None = 0
steps_left (Some left) = left
