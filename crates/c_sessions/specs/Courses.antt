-- Events that sessions without peers carry out in parts.
use Rattle.std.specs.Prelude.{◌≡◌, ◌≤◌, ◌+◌, ◌++◌, ℕ, Bool, true, false, List, None, Some, Ok, Err, Result}
use Rattle.ui_machine.specs.State.Config.{World}
use Rattle.ui_machine.specs.State.Tasks.{Event}
use Rattle.engine_dispatches.specs.declared.courses.Course.{Course}
use Rattle.engine_dispatches.specs.declared.courses.Progress.{Progress}
use Rattle.engine_dispatches.specs.Courses.{IfGoesOn}
use Rattle.engine_dispatches.specs.declared.dispatches.Reply.{Reply}
use Rattle.engine_dispatches.specs.Ways.{serving}
use Rattle.ui_engine.specs.declared.faults.SessionFault.{SessionFault}
use Rattle.ui_engine.specs.SessionView.{BeginsEvent, Comes, InCourse, with_front}
use Rattle.c_sessions.specs.Nobody.{nobody}
use Rattle.c_sessions.specs.RunStates.{RunState, course_left, is_under_way, reached}

-- An event has come so far from a world, by so many counted steps. The lines that came before those that are kept are these.
pub record HasCome (event : Event) (w : World) (front : List (List ℕ)) (steps : ℕ) (r : RunState) : Type 0 where
  pub course : Course
  pub kept : r.course ≡ Some course
  pub in_course : InCourse nobody r.core.definition event w front course r.pool r.core
  pub counted : course.so_far.steps + r.core.counted ≡ steps

-- it has ended: it came to what it comes to in one call
pub record HasEnded (event : Event) (w : World) (front : List (List ℕ)) (most : ℕ) (old new : RunState) : Type 0 where
  pub reply : Reply
  pub comes : Comes (Ok reply) (serving nobody old.core.definition w event) old.core.definition (with_front front (reached new))
  pub within : reply.steps ≤ most

-- no memory was found for it
abbrev pub HasBroken : Event → World → List (List ℕ) → SessionFault → RunState → RunState → Type 0
HasBroken event w front fault old new =
    Comes (Err fault) (serving nobody old.core.definition w event) old.core.definition (with_front front (reached new))

-- ** the beginning

-- what has come of an event at its beginning, in which no step is counted
pub record Begun (event : Event) (old new : RunState) : Type 0 where
  pub progress : Progress
  pub begins : BeginsEvent nobody old.core.stopped (Ok progress) old.pool old.core event new.core
  pub pool : new.pool ≡ old.pool
  pub kept : new.course ≡ course_left progress
  pub none : IfGoesOn progress (λ course. course.so_far.steps + new.core.counted ≡ 0)

-- what comes of beginning an event
abbrev pub BeginsBy : Result (Unit {0}) SessionFault → Event → RunState → RunState → Type 0
BeginsBy (Ok _) event old new = Begun event old new
BeginsBy (Err fault) event old new =
    BeginsEvent nobody old.core.stopped (Err fault) old.pool old.core event new.core × (new.pool ≡ old.pool) × (new.course ≡ old.course)

-- ** going on

-- this holds of an event and a world from wherever a session has come so far
abbrev pub FromWherever : RunState → (Event → World → List (List ℕ) → ℕ → Type 0) → Type 0
FromWherever old P = (event : Event) (w : World) (front : List (List ℕ)) (steps : ℕ) → HasCome event w front steps old → P event w front steps

-- the event has come so many steps further, or it has ended with no more
abbrev pub GoesOn : Bool → ℕ → RunState → RunState → Type 0
GoesOn true most old new = FromWherever old (λ event w front steps. HasCome event w front (steps + most) new)
GoesOn false most old new = FromWherever old (λ event w front steps. HasEnded event w front (steps + most) old new)

-- what comes of going on for so many counted steps; where no event is under way nothing changes
abbrev pub Advances : Bool → Result (Unit {0}) SessionFault → ℕ → RunState → RunState → Type 0
Advances false result most old new = (result ≡ Ok tt) × (new ≡ old)
Advances true (Ok _) most old new = GoesOn (is_under_way new) most old new
Advances true (Err fault) most old new = FromWherever old (λ event w front steps. HasBroken event w front fault old new) × (new.course ≡ None)

-- ** lines that are taken

-- the event has come as far; where lines are no longer kept these are in front
abbrev pub HasComeStill : Event → World → List (List ℕ) → ℕ → RunState → RunState → Type 0
HasComeStill event w front steps old new =
    (forgotten : List (List ℕ)) × (forgotten ++ new.core.world.transcript ≡ front ++ old.core.world.transcript) × HasCome event w forgotten steps new
