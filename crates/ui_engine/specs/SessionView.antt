-- What a session has come to, and what it answers.
use Rattle.std.specs.Prelude.{◌≡◌, ℕ, Bool, true, false, List, [], option_map, string_bytes, ⊤, Option, Some, None, Result, Ok, Err}
use Rattle.ui_machine.specs.Definition.{Definition}
use Rattle.ui_machine.specs.Rules.Events.{Refusal, gone, clock_back, refusal}
use Rattle.ui_machine.specs.Runs.{of_build}
use Rattle.ui_machine.specs.State.Config.{World}
use Rattle.ui_machine.specs.State.Peers.{Peer}
use Rattle.ui_machine.specs.State.Tasks.{Event, Task}
use Rattle.g_values.specs.View.{value_view}
use Rattle.law_typing.specs.Verdict.Accepted.{Accepted}
use Rattle.verified_limits.specs.Limits.{is_within}
use Rattle.law_peers.specs.Needs.{Mismatch, closed, misshapen, missing, unused}
use Rattle.machine_laws.specs.FrontLaws.{fronted}
use Rattle.native_peers.specs.Seen.{Relations, Seen}
use Rattle.engine_dispatches.specs.declared.courses.Course.{Course}
use Rattle.engine_dispatches.specs.declared.courses.Progress.{Progress}
use Rattle.engine_dispatches.specs.declared.courses.Progress.TheVariants as progress
use Rattle.engine_dispatches.specs.declared.dispatches.Reply.{Reply}
use Rattle.engine_dispatches.specs.Courses.{IsUnderWay}
use Rattle.engine_dispatches.specs.Following.{Point}
use Rattle.engine_dispatches.specs.PoolView.{Knows, world_at}
use Rattle.engine_dispatches.specs.Ways.{Ways, carrying_out, serving, tally_of}
use Rattle.ui_engine.specs.declared.faults.SessionFault.{SessionFault}
use Rattle.ui_engine.specs.declared.faults.SessionFault.TheVariants as faults
use Rattle.ui_engine.specs.declared.faults.StartFault.{StartFault}
use Rattle.ui_engine.specs.declared.faults.StartFault.TheVariants as starts

-- A definition, the world, and what is left to do with the steps that are counted so far; whether the session has stopped, and whether an
-- event is under way, for which it has stopped so far as other events go.
pub record SessionState : Type 0 where
  pub definition : Definition
  pub world : World
  pub agenda : List Task
  pub counted : ℕ
  pub stopped : Bool
  pub under_way : Bool

-- the same session with its peers as they are seen in its pool
abbrev pub state_at : List Seen → SessionState → SessionState
state_at pool s = record s { world = world_at pool s.world }

-- where it has come to, beside its pool
abbrev pub point_in : List Seen → SessionState → Point
point_in pool s = record { pool = pool; view = record { world = s.world; agenda = s.agenda; counted = s.counted } }

-- the same session with these lines in front of its own
abbrev pub with_front : List (List ℕ) → SessionState → SessionState
with_front front s = record s { world = fronted front s.world }

-- the same session without the lines that it has said
abbrev pub without_lines : SessionState → SessionState
without_lines s = record s { world = record s.world { transcript = [] } }

-- unless it has stopped, a session knows of each peer of its pool its name, its methods, and whether it is open
abbrev pub IsSeated : List Seen → SessionState → Type 0
IsSeated pool s = s.stopped ≡ false → Knows s.world pool

-- ** what a call answers

-- the build of a definition with these peers
abbrev pub building : Relations → Definition → List Peer → Ways
building may d peers = carrying_out may d (of_build d peers)

-- the part of the run came to its end, with the value that it gave
pub record Ends (reply : Reply) (ways : Ways) (d : Definition) (new : SessionState) : Type 0 where
  pub leads : ways.to (tally_of reply) new.world
  pub value : option_map value_view reply.result ≡ new.world.result
  pub definition : new.definition ≡ d
  pub goes_on : new.stopped ≡ false

-- it broke off, and the session stopped with it
pub record BreaksOff (ways : Ways) (d : Definition) (new : SessionState) : Type 0 where
  pub breaks_off : ways.breaks_off new.world.peers new.world.transcript
  pub definition : new.definition ≡ d
  pub stops : new.stopped ≡ true

-- what comes of a call, in a session that has not stopped
abbrev pub Comes : Result Reply SessionFault → Ways → Definition → SessionState → Type 0
Comes (Ok reply) ways d new = Ends reply ways d new
Comes (Err faults.OutOfMemory) ways d new = BreaksOff ways d new
Comes (Err faults.Stopped) ways d new = ⊥
Comes (Err faults.ClockBack) ways d new = ⊥
Comes (Err faults.Released) ways d new = ⊥

-- What comes of an event by why it is refused, if it is: one that names what was released, and a turn of a moment before the latest one. It
-- changes nothing.
abbrev pub AnswersBy : Relations → Option Refusal → Result Reply SessionFault → SessionState → Event → SessionState → Type 0
AnswersBy may (Some gone) result old event new = (result ≡ Err faults.Released) × (new ≡ old)
AnswersBy may (Some clock_back) result old event new = (result ≡ Err faults.ClockBack) × (new ≡ old)
AnswersBy may None result old event new = Comes result (serving may old.definition old.world event) old.definition new

-- an event: a session that has stopped answers that, and changes nothing
abbrev pub AnswersEvent : Relations → Bool → Result Reply SessionFault → SessionState → Event → SessionState → Type 0
AnswersEvent may true result old event new = (result ≡ Err faults.Stopped) × (new ≡ old)
AnswersEvent may false result old event new = AnswersBy may (refusal old.world event) result old event new

-- ** events in parts

-- An event from a world has come so far. The session does nothing else: as far as other events go it has stopped. Of the event these lines
-- are no longer kept.
pub record InCourse (may : Relations) (d : Definition) (event : Event) (w : World) (front : List (List ℕ)) (course : Course) (pool : List Seen) (new : SessionState) : Type 0 where
  pub definition : new.definition ≡ d
  pub under_way : new.under_way ≡ true
  pub stops : new.stopped ≡ true
  pub so_far : IsUnderWay d may event w front course (point_in pool new)

-- so it is of some event
pub record HasCourse (may : Relations) (course : Course) (pool : List Seen) (s : SessionState) : Type 0 where
  pub event : Event
  pub from : World
  pub front : List (List ℕ)
  pub in_course : InCourse may s.definition event from front course pool s

-- What comes of going on with an event, in a session that did not stop before: it has come so far, or it has ended, or no memory was found.
abbrev pub ComesOn : Result Progress SessionFault → Relations → Definition → Event → World → List (List ℕ) → List Seen → SessionState → Type 0
ComesOn (Ok (progress.UnderWay course)) may d event w front pool new = InCourse may d event w front course pool new
ComesOn (Ok (progress.Ended reply)) may d event w front pool new = Comes (Ok reply) (serving may d w event) d (with_front front (state_at pool new))
ComesOn (Err fault) may d event w front pool new = Comes (Err fault) (serving may d w event) d (with_front front (state_at pool new))

-- What comes of beginning an event, by why it is refused, if it is. That changes nothing.
abbrev pub BeginsBy : Relations → Option Refusal → Result Progress SessionFault → List Seen → SessionState → Event → SessionState → Type 0
BeginsBy may (Some gone) result pool old event new = (result ≡ Err faults.Released) × (new ≡ old)
BeginsBy may (Some clock_back) result pool old event new = (result ≡ Err faults.ClockBack) × (new ≡ old)
BeginsBy may None result pool old event new = ComesOn result may old.definition event (world_at pool old.world) [] pool new

-- of any event: a session that has stopped answers that, and changes nothing
abbrev pub BeginsEvent : Relations → Bool → Result Progress SessionFault → List Seen → SessionState → Event → SessionState → Type 0
BeginsEvent may true result pool old event new = (result ≡ Err faults.Stopped) × (new ≡ old)
BeginsEvent may false result pool old event new = BeginsBy may (refusal old.world event) result pool old event new

-- why no session began: how the pool failed to match, if it did
abbrev pub IsWhy : StartFault → Option Mismatch → Type 0
IsWhy starts.OutOfMemory lack = ⊤
IsWhy (starts.PeerMissing name) lack = lack ≡ Some (missing (string_bytes name))
IsWhy (starts.PeerClosed name) lack = lack ≡ Some (closed (string_bytes name))
IsWhy (starts.PeerShape name) lack = lack ≡ Some (misshapen (string_bytes name))
IsWhy (starts.PeerUnused name) lack = lack ≡ Some (unused (string_bytes name))
IsWhy starts.StepLimit lack = ⊥

-- no dispatch of the definition counts more steps, whatever it begins with
abbrev pub IsWithin : Definition → (most : ℕ) → Type 0
IsWithin d most = (a : Accepted d) → is_within d a most ≡ true

-- Why none began whose dispatches count at most so many steps: the definition is not within this limit, or else how the pool failed to match.
abbrev pub IsWhyWithin : Definition → (most : ℕ) → StartFault → Option Mismatch → Type 0
IsWhyWithin d most starts.OutOfMemory lack = ⊤
IsWhyWithin d most (starts.PeerMissing name) lack = IsWithin d most × (lack ≡ Some (missing (string_bytes name)))
IsWhyWithin d most (starts.PeerClosed name) lack = IsWithin d most × (lack ≡ Some (closed (string_bytes name)))
IsWhyWithin d most (starts.PeerShape name) lack = IsWithin d most × (lack ≡ Some (misshapen (string_bytes name)))
IsWhyWithin d most (starts.PeerUnused name) lack = IsWithin d most × (lack ≡ Some (unused (string_bytes name)))
IsWhyWithin d most starts.StepLimit lack = (a : Accepted d) → is_within d a most ≡ false
