-- The beginnings of the events of lines.
use Rattle.std.proofs.Common.{◌≡◌, ℕ, Bool, true, false, List, [], ◌∷◌, ◌++◌, length, drop, Option, None, Some, Ok, Err, true≢false, refl, sym, ap, ◌∙◌, subst, inr, append-nil}
use Rattle.std.specs.Prelude.{is_some}
use Rattle.ui_machine.specs.Prefix.{IsPrefix}
use Rattle.ui_machine.specs.Rules.Events.{Refusal, gone, clock_back, refusal}
use Rattle.ui_machine.specs.State.Tasks.{Event}
use Rattle.builder_defs.specs.EventMeaning.{Fails, event_denoted}
use Rattle.native_peers.specs.Seen.{Seen}
use Rattle.definition_format.specs.declared.event_faults.EventError.{EventError}
use Rattle.definition_format.specs.declared.event_faults.EventError.TheVariants as errors
use Rattle.engine_dispatches.specs.PoolView.{world_at}
use Rattle.engine_dispatches.specs.Ways.{tally_of}
use Rattle.engine_dispatches.specs.declared.courses.Course.{Course}
use Rattle.engine_dispatches.specs.declared.courses.Progress.{Progress}
use Rattle.engine_dispatches.specs.declared.courses.Progress.TheVariants as progress
use Rattle.ui_engine.specs.declared.faults.SessionFault.{SessionFault}
use Rattle.ui_engine.specs.declared.faults.SessionFault.TheVariants as ends
use Rattle.ui_engine.specs.SessionView.{AnswersBy, AnswersEvent, BeginsEvent, ComesOn, SessionState, state_at}
use Rattle.event_lines.specs.Events.{Says, event_replies}
use Rattle.event_lines.specs.LineOutcome.{dispatch_fault, outcome_of, reading_fault}
use Rattle.event_lines.specs.Texts.{lines_text}
use Rattle.event_lines.specs.declared.line_handler.LineFault.{LineFault}
use Rattle.event_lines.proofs.EventLemmas.{answers_fault, begun, begun_badly, grown, halted, unread}
use Rattle.c_sessions.specs.Courses.{Begun}
use Rattle.c_sessions.specs.Faults as here
use Rattle.c_sessions.specs.Faults.{line_fault, outcome_here}
use Rattle.c_sessions.specs.LineBeginnings.{Begins, BeginsLine, LeavesBy}
use Rattle.c_sessions.specs.Nobody.{nobody}
use Rattle.c_sessions.specs.RunStates.{RunState, course_left, is_under_way, reached}
use Rattle.c_sessions.specs.Since.{lines_since}
use Rattle.c_sessions.specs.declared.faults.HostedFault.TheVariants as hosted

-- a fault of the session is for a run of lines what it is for the lines
pub dispatch_faults : (fault : SessionFault) → line_fault (here.dispatch_fault fault) ≡ dispatch_fault fault
dispatch_faults ends.OutOfMemory = refl
dispatch_faults ends.Stopped = refl
dispatch_faults ends.ClockBack = refl
dispatch_faults ends.Released = refl

-- and so a fault of reading
pub reading_faults : (error : EventError) → line_fault (here.reading_fault error) ≡ reading_fault error
reading_faults errors.OutOfMemory = refl
reading_faults (errors.Refused fault) = refl

module _ (old new : RunState) (line : List ℕ) (event : Event) (denotes : event_denoted old.core.definition line ≡ Ok event) where
  -- it has begun
  pub begun_line : Begun event old new → Begins line old new
  begun_line b = record {
    progress = b.progress;
    begun = begun nobody old.pool old.core line event denotes b.progress new.core b.begins;
    pool = b.pool;
    kept = b.kept;
    none = b.none;
  }

  -- it has not, for this fault
  pub unbegun_line : IsPrefix old.core.world.transcript new.core.world.transcript → new.pool ≡ old.pool → (fault : SessionFault) → BeginsEvent nobody old.core.stopped (Err fault) old.pool old.core event new.core
      → event_replies nobody (reached old) line (outcome_here (Err (here.dispatch_fault fault)) (lines_since (reached old) (reached new))) (reached new)
  unbegun_line longer pool fault begins =
      subst (λ (f : LineFault). event_replies nobody (reached old) line (outcome_of {T = Unit {0}} (Err f) (lines_since (reached old) (reached new))) (reached new)) (sym (dispatch_faults fault))
      (subst (λ (p : List Seen). event_replies nobody (reached old) line (outcome_of {T = Unit {0}} (Err (dispatch_fault fault)) (lines_since (reached old) (state_at p new.core))) (state_at p new.core))
      (sym pool) (halted nobody old.pool old.core line event denotes new.core longer fault begins))

  -- it was not carried out, for this fault
  pub unserved_line : IsPrefix old.core.world.transcript new.core.world.transcript → (fault : SessionFault) → AnswersEvent nobody old.core.stopped (Err fault) (reached old) event (reached new)
      → event_replies nobody (reached old) line (outcome_here (Err (here.dispatch_fault fault)) (lines_since (reached old) (reached new))) (reached new)
  unserved_line longer fault answers =
      subst (λ (f : LineFault). event_replies nobody (reached old) line (outcome_of {T = Unit {0}} (Err f) (lines_since (reached old) (reached new))) (reached new)) (sym (dispatch_faults fault))
      (answers_fault nobody (reached old) line event denotes (reached new) longer fault answers)

-- a session in which nothing was done has said nothing
nothing_since : (lines : List (List ℕ)) → drop (length lines) lines ≡ []
nothing_since [] = refl
nothing_since (line ∷ lines) = nothing_since lines

-- so it answers for want of memory, or where it takes no event
pub untouched : (s : SessionState) (line : List ℕ) → event_replies nobody s line (outcome_here (Err hosted.Stopped) (lines_since s s)) s
untouched s line = inr (nothing_since s.world.transcript, refl)

-- and what was not taken of its lines is what it was
pub none_since : (bytes : List ℕ) (lines : List (List ℕ)) → bytes ≡ bytes ++ lines_text (drop (length lines) lines)
none_since bytes lines = sym (ap (λ (more : List (List ℕ)). bytes ++ lines_text more) (nothing_since lines) ∙ append-nil bytes)

-- ** a line that is no event, or for whose reading no memory was found

pub unread_line : (r : RunState) (line : List ℕ) (error : EventError) → Fails error (event_denoted r.core.definition line)
    → event_replies nobody (reached r) line (outcome_here (Err (here.reading_fault error)) (lines_since (reached r) (reached r))) (reached r)
unread_line r line error fails =
    subst (λ (f : LineFault). event_replies nobody (reached r) line (outcome_of {T = Unit {0}} (Err f) (lines_since (reached r) (reached r))) (reached r)) (sym (reading_faults error))
    (unread nobody r.pool r.core line error fails)

-- nothing changes
pub leaves_unread : (error : EventError) (r : RunState) → LeavesBy (here.reading_fault error) r r
leaves_unread errors.OutOfMemory r = refl
leaves_unread (errors.Refused fault) r = refl

-- ** a fault of the session

-- it leaves the session as it was, or stopped
pub leaves_unserved : (old new : RunState) (event : Event) (fault : SessionFault) → AnswersEvent nobody old.core.stopped (Err fault) (reached old) event (reached new) → LeavesBy (here.dispatch_fault fault) old new
leaves_unserved old new event fault answers = by old.core.stopped refl fault answers
  where
    on : (why : Option Refusal) (fault : SessionFault) → AnswersBy nobody why (Err fault) (reached old) event (reached new) → LeavesBy (here.dispatch_fault fault) old new
    on (Some gone) ends.Released h = h.1
    on (Some gone) ends.ClockBack h = cc h.0
    on (Some gone) ends.Stopped h = cc h.0
    on (Some gone) ends.OutOfMemory h = cc h.0
    on (Some clock_back) ends.ClockBack h = h.1
    on (Some clock_back) ends.Released h = cc h.0
    on (Some clock_back) ends.Stopped h = cc h.0
    on (Some clock_back) ends.OutOfMemory h = cc h.0
    on None ends.OutOfMemory h = h.stops
    on None ends.Stopped h = absurd h
    on None ends.ClockBack h = absurd h
    on None ends.Released h = absurd h

    by : (b : Bool) → old.core.stopped ≡ b → (fault : SessionFault) → AnswersEvent nobody b (Err fault) (reached old) event (reached new) → LeavesBy (here.dispatch_fault fault) old new
    by true is ends.Stopped h = ap (λ (s : SessionState). s.stopped) h.1 ∙ is
    by true is ends.OutOfMemory h = cc h.0
    by true is ends.ClockBack h = cc h.0
    by true is ends.Released h = cc h.0
    by false is fault h = on (refusal (reached old).world event) fault h

-- also where its event was only to begin
pub leaves_unbegun : (old new : RunState) (event : Event) (fault : SessionFault) → new.pool ≡ old.pool → BeginsEvent nobody old.core.stopped (Err fault) old.pool old.core event new.core → LeavesBy (here.dispatch_fault fault) old new
leaves_unbegun old new event fault pool begins =
    leaves_unserved old new event fault
    (subst (λ (p : List Seen). AnswersEvent nobody old.core.stopped (Err fault) (reached old) event (state_at p new.core)) (sym pool) (begun_badly nobody old.core.stopped fault old.pool old.core event new.core begins))

-- ** whether an event is under way

-- where one is, nothing is begun
pub begins_busy : (goes : Bool) (line : List ℕ) (r : RunState) → goes ≡ true → BeginsLine goes (Err hosted.Stopped) line r r
begins_busy goes line r is = subst (λ (b : Bool). BeginsLine b (Err hosted.Stopped) line r r) (sym is) (refl, refl)

-- where none is, nothing is kept of one
pub no_course : (r : RunState) → is_under_way r ≡ false → r.course ≡ None
no_course r rests = by r.course rests
  where
    by : (o : Option Course) → is_some o ≡ false → o ≡ None
    by None is = refl
    by (Some course) is = absurd (true≢false is)

-- ** an event that has ended at its beginning

-- it was carried out
pub ended_line : (old new : RunState) (line : List ℕ) → IsPrefix old.core.world.transcript new.core.world.transcript → Begins line old new → is_under_way new ≡ false
    → Says nobody (reached old) line (lines_since (reached old) (reached new)) (reached new)
ended_line old new line longer b rests = by b.progress refl
  where
    by : (p : Progress) → b.progress ≡ p → Says nobody (reached old) line (lines_since (reached old) (reached new)) (reached new)
    by (progress.UnderWay course) is = absurd (true≢false (ap (λ (p : Progress). is_some (course_left p)) (sym is) ∙ ap (λ (o : Option Course). is_some o) (sym b.kept) ∙ rests))
    by (progress.Ended reply) is =
        let so : ComesOn (Ok (progress.Ended reply)) nobody old.core.definition b.begun.event (world_at old.pool old.core.world) [] old.pool new.core =
        subst (λ (p : Progress). ComesOn (Ok p) nobody old.core.definition b.begun.event (world_at old.pool old.core.world) [] old.pool new.core) is b.begun.so_far in
        subst (λ (p : List Seen). Says nobody (reached old) line (lines_since (reached old) (state_at p new.core)) (state_at p new.core)) (sym b.pool)
        (record {
          event = b.begun.event;
          tally = tally_of reply;
          denotes = b.begun.denotes;
          serves = so.leads;
          shows = grown old.core.world.transcript new.core.world.transcript longer;
          definition = so.definition;
          goes_on = so.goes_on;
        })
