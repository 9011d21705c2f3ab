-- What comes of beginning the events of lines.
use Rattle.std.specs.Prelude.{◌≡◌, ◌+◌, ℕ, Bool, true, false, List, None, Ok, Err, Result}
use Rattle.engine_dispatches.specs.declared.courses.Progress.{Progress}
use Rattle.engine_dispatches.specs.Courses.{IfGoesOn}
use Rattle.event_lines.specs.Events.{event_replies}
use Rattle.event_lines.specs.LineStarts.{HasBegun}
use Rattle.c_sessions.specs.Faults.{outcome_here}
use Rattle.c_sessions.specs.Nobody.{nobody}
use Rattle.c_sessions.specs.RunStates.{RunState, course_left, reached}
use Rattle.c_sessions.specs.Since.{lines_since}
use Rattle.c_sessions.specs.declared.faults.HostedFault.{HostedFault}
use Rattle.c_sessions.specs.declared.faults.HostedFault.TheVariants as hosted

-- what has come of the event of a line at its beginning, in which no step is counted
pub record Begins (line : List ℕ) (old new : RunState) : Type 0 where
  pub progress : Progress
  pub begun : HasBegun nobody old.pool old.core line progress new.core
  pub pool : new.pool ≡ old.pool
  pub kept : new.course ≡ course_left progress
  pub none : IfGoesOn progress (λ course. course.so_far.steps + new.core.counted ≡ 0)

-- what comes of beginning the event of a line; where one is under way nothing changes
abbrev pub BeginsLine : Bool → Result (Unit {0}) HostedFault → List ℕ → RunState → RunState → Type 0
BeginsLine true result line old new = (result ≡ Err hosted.Stopped) × (new ≡ old)
BeginsLine false (Ok _) line old new = Begins line old new
BeginsLine false (Err fault) line old new =
    event_replies nobody (reached old) line (outcome_here (Err fault) (lines_since (reached old) (reached new))) (reached new) × (new.course ≡ None)

-- what a fault of a line leaves: no change where no memory was found for reading it, and a session that takes no event
abbrev pub LeavesBy : HostedFault → RunState → RunState → Type 0
LeavesBy (hosted.Refused why) old new = reached new ≡ reached old
LeavesBy hosted.NoMemory old new = reached new ≡ reached old
LeavesBy hosted.Stopped old new = (reached new).stopped ≡ true
