-- Sessions without peers, and the events that are under way in them.
use Rattle.std.specs.Prelude.{⊤, Bool, List, Option, None, Some, is_some}
use Rattle.native_peers.specs.Seen.{Seen}
use Rattle.engine_dispatches.specs.declared.courses.Course.{Course}
use Rattle.engine_dispatches.specs.declared.courses.Progress.{Progress}
use Rattle.engine_dispatches.specs.declared.courses.Progress.TheVariants as progress
use Rattle.ui_engine.specs.SessionView.{HasCourse, SessionState, state_at, without_lines}
use Rattle.c_sessions.specs.Nobody.{nobody}

-- a session, whom it could ask, and what is kept of the event that is under way, if one is
pub record RunState : Type 0 where
  pub pool : List Seen
  pub core : SessionState
  pub course : Option Course

-- no event is under way in a session
abbrev pub resting : List Seen → SessionState → RunState
resting pool core = record { pool = pool; core = core; course = None }

-- whether an event is under way
abbrev pub is_under_way : RunState → Bool
is_under_way r = is_some r.course

-- what a session has come to
abbrev pub reached : RunState → SessionState
reached r = state_at r.pool r.core

-- a session that has let go of its lines
abbrev pub without_said : RunState → RunState
without_said r = record { pool = r.pool; core = without_lines r.core; course = r.course }

-- what is kept of an event that is under way is what the session goes on with; of none nothing is kept
abbrev pub IsCourse : Option Course → List Seen → SessionState → Type 0
IsCourse None pool s = ⊤
IsCourse (Some course) pool s = HasCourse nobody course pool s

-- what is kept of an event that has come so far
abbrev pub course_left : Progress → Option Course
course_left (progress.UnderWay course) = Some course
course_left (progress.Ended reply) = None
