-- Events that sessions carry out in parts.
use Rattle.std.proofs.Common.{◌≡◌, ◌+◌, ◌++◌, ◌≤◌, ℕ, Bool, true, false, List, [], Option, None, Some, Result, Ok, Err, true≢false, refl, sym, ap, subst, arith, ◌∙◌, append-nil}
use Rattle.std.proofs.lemmas.Option.{none-some}
use Rattle.std.specs.Prelude.{is_some}
use Rattle.ui_machine.specs.Definition.{Definition}
use Rattle.ui_machine.specs.Prefix.{IsPrefix}
use Rattle.ui_machine.specs.State.Config.{World}
use Rattle.ui_machine.specs.State.Tasks.{Event}
use Rattle.native_peers.specs.Seen.{Relations, Seen}
use Rattle.engine_dispatches.specs.declared.courses.Course.{Course}
use Rattle.engine_dispatches.specs.declared.courses.Progress.{Progress}
use Rattle.engine_dispatches.specs.declared.courses.Progress.TheVariants as progress
use Rattle.engine_dispatches.specs.Courses.{IfGoesOn, IfHasEnded, IfUnderWay}
use Rattle.ui_engine.specs.declared.faults.SessionFault.{SessionFault}
use Rattle.ui_engine.specs.declared.faults.SessionFault.TheVariants as faults
use Rattle.ui_engine.specs.SessionView.{AnswersEvent, BeginsEvent, ComesOn, HasCourse, InCourse, SessionState, state_at, without_lines}
use Rattle.ui_engine.proofs.Slices.{comes_forgotten}
use Rattle.c_sessions.specs.Courses.{Advances, FromWherever, GoesOn, HasBroken, HasCome, HasComeStill}
use Rattle.c_sessions.specs.Nobody.{nobody}
use Rattle.c_sessions.specs.RunStates.{IsCourse, RunState, course_left, is_under_way, reached, without_said}

-- ** what is kept of an event

-- a session in which an event is under way takes no other
pub course_stops : (course : Option Course) (pool : List Seen) (s : SessionState) → IsCourse course pool s → is_some course ≡ true → s.stopped ≡ true
course_stops None pool s is some = absurd (true≢false (sym some))
course_stops (Some course) pool s is some = is.in_course.stops

-- the session goes on with what is kept
pub goes_on_with : (kept : Option Course) (course : Course) (pool : List Seen) (s : SessionState) → IsCourse kept pool s → kept ≡ Some course → HasCourse nobody course pool s
goes_on_with None course pool s is same = absurd (none-some course same)
goes_on_with (Some kept) course pool s is same = subst (λ (c : Course). HasCourse nobody c pool s) (cc same) is

-- of none nothing is kept
pub nothing_kept : (kept : Option Course) (pool : List Seen) (s : SessionState) → is_some kept ≡ false → IsCourse kept pool s
nothing_kept None pool s none = tt
nothing_kept (Some course) pool s none = absurd (true≢false none)

-- what is left of an event is what the session goes on with
pub course_of : (p : Progress) (pool : List Seen) (s : SessionState) → IfGoesOn p (λ course. HasCourse nobody course pool s) → IsCourse (course_left p) pool s
course_of (progress.UnderWay course) pool s has = has
course_of (progress.Ended reply) pool s has = tt

-- also where the session goes on with all that it went on with
pub course_still : (kept : Option Course) (pool later : List Seen) (s new : SessionState) → ((course : Course) → HasCourse nobody course pool s → HasCourse nobody course later new)
    → IsCourse kept pool s → IsCourse kept later new
course_still None pool later s new still is = tt
course_still (Some course) pool later s new still is = still course is

-- ** what stays

-- a session that has stopped answers an event and stays
pub answers_stays : (may : Relations) (stopped : Bool) (result : _) (old : SessionState) (event : Event) (new : SessionState) → AnswersEvent may stopped result old event new → stopped ≡ true → new ≡ old
answers_stays may true result old event new answers is = answers.1
answers_stays may false result old event new answers is = absurd (cc is)

-- and so where one is begun
pub begins_stays : (may : Relations) (stopped : Bool) (result : _) (pool : List Seen) (old : SessionState) (event : Event) (new : SessionState) → BeginsEvent may stopped result pool old event new → stopped ≡ true → new ≡ old
begins_stays may true result pool old event new begins is = begins.1
begins_stays may false result pool old event new begins is = absurd (cc is)

-- and answers so, whatever the event
pub answers_stopped : (stopped : Bool) (s : SessionState) (event : Event) → stopped ≡ true → AnswersEvent nobody stopped (Err faults.Stopped) s event s
answers_stopped stopped s event is = subst (λ (b : Bool). AnswersEvent nobody b (Err faults.Stopped) s event s) (sym is) (refl, refl)

pub begins_stopped : (stopped : Bool) (pool : List Seen) (s : SessionState) (event : Event) → stopped ≡ true → BeginsEvent nobody stopped (Err faults.Stopped) pool s event s
begins_stopped stopped pool s event is = subst (λ (b : Bool). BeginsEvent nobody b (Err faults.Stopped) pool s event s) (sym is) (refl, refl)

-- lines that are the same have grown by none
pub same_lines : (lines : List (List ℕ)) → IsPrefix lines lines
same_lines lines = record { more = []; whole = sym (append-nil lines) }

-- ** going on

module _ (old new : RunState) (course : Course) (kept : old.course ≡ Some course) (most : ℕ) where
  -- what the session says of going on
  abbrev Went : Result Progress SessionFault → Type 0
  Went result =
      (event : Event) (w : World) (front : List (List ℕ)) → InCourse nobody old.core.definition event w front course old.pool old.core
      → ComesOn result nobody old.core.definition event w front new.pool new.core

  module _ {event : Event} {w : World} {front : List (List ℕ)} {steps : ℕ} (has : HasCome event w front steps old) where
    same_course : has.course ≡ course
    same_course = (let both = sym has.kept ∙ kept in cc both)

    in_course_here : InCourse nobody old.core.definition event w front course old.pool old.core
    in_course_here = subst (λ (c : Course). InCourse nobody old.core.definition event w front c old.pool old.core) same_course has.in_course

    counted_here : course.so_far.steps + old.core.counted ≡ steps
    counted_here = subst (λ (c : Course). c.so_far.steps + old.core.counted ≡ steps) same_course has.counted

  pub goes_on : (p : Progress) → new.course ≡ course_left p → Went (Ok p)
      → IfGoesOn p (λ next. next.so_far.steps + new.core.counted ≡ course.so_far.steps + old.core.counted + most)
      → IfHasEnded p (λ reply. reply.steps ≤ course.so_far.steps + old.core.counted + most)
      → GoesOn (is_under_way new) most old new
  goes_on (progress.UnderWay next) is went made within =
      subst (λ (o : Option Course). GoesOn (is_some o) most old new) (sym is)
      (λ event w front steps has.
      let so = went event w front (in_course_here has) in let counts = counted_here has in
      record {
        course = next;
        kept = is;
        in_course = subst (λ (d : Definition). InCourse nobody d event w front next new.pool new.core) (sym so.definition) so;
        counted = omega (arith, made, counts);
      })
  goes_on (progress.Ended reply) is went made within =
      subst (λ (o : Option Course). GoesOn (is_some o) most old new) (sym is)
      (λ event w front steps has.
      let counts = counted_here has in
      record { reply = reply; comes = went event w front (in_course_here has); within = omega (arith, within, counts) })

  pub breaks : (fault : SessionFault) → Went (Err fault) → FromWherever old (λ event w front steps. HasBroken event w front fault old new)
  breaks fault went event w front steps has = went event w front (in_course_here has)

-- where an event was under way
pub advances : (goes : Bool) (result : Result (Unit {0}) SessionFault) (most : ℕ) (old new : RunState) → goes ≡ true → Advances true result most old new → Advances goes result most old new
advances goes result most old new is so = subst (λ (b : Bool). Advances b result most old new) (sym is) so

-- ** lines that are taken

-- lines that are forgotten come in front
pub still_forgotten : (old : RunState) → FromWherever old (λ event w front steps. HasComeStill event w front steps old (without_said old))
still_forgotten old event w front steps has = (
  front ++ old.core.world.transcript,
  append-nil (front ++ old.core.world.transcript),
  record {
    course = has.course;
    kept = has.kept;
    in_course = comes_forgotten nobody old.core.definition event w front old.pool old.core (progress.UnderWay has.course) has.in_course;
    counted = has.counted;
  },
)

-- nothing is forgotten
pub still_kept : (old new : RunState) → new ≡ old → FromWherever old (λ event w front steps. HasComeStill event w front steps old new)
still_kept old new same event w front steps has =
    (front, ap (λ (r : RunState). front ++ r.core.world.transcript) same, subst (λ (r : RunState). HasCome event w front steps r) (sym same) has)
