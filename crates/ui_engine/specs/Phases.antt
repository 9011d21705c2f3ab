-- What a session is at, and what it keeps there.
use Rattle.std.specs.Prelude.{Bool, true, false, ⊤, vec_capacity}
use Rattle.ui_machine.specs.Definition.{Definition}
use Rattle.engine_world.specs.Counting.{Counts, nothing}
use Rattle.engine_world.specs.View.{world_of}
use Rattle.engine_world.specs.declared.engine.Engine.{Engine}
use Rattle.engine_dispatches.specs.declared.courses.Progress.{Progress}
use Rattle.engine_dispatches.specs.declared.courses.Progress.TheVariants as progress
use Rattle.engine_dispatches.specs.Dispatched.{IsAtRest}
use Rattle.engine_dispatches.specs.Promises.{IsRoomy, Rests}
use Rattle.ui_engine.specs.declared.cores.Phase.{Phase}
use Rattle.ui_engine.specs.declared.cores.Phase.TheVariants as phases

-- whether it takes no event
abbrev pub has_stopped : Phase → Bool
has_stopped phases.AtRest = false
has_stopped phases.UnderWay = true
has_stopped phases.Stopped = true

-- whether an event is under way
abbrev pub is_under_way : Phase → Bool
is_under_way phases.AtRest = false
is_under_way phases.UnderWay = true
is_under_way phases.Stopped = false

-- an engine has room for all tasks of a definition
abbrev pub HasAllRoom : Definition → Engine → Type 0
HasAllRoom d e = IsRoomy d (vec_capacity e.stack.tasks)

-- At rest nothing is left to do, and each object is counted as often as it is mentioned, as it is where an event is under way. There is room
-- for all tasks.
abbrev pub IsKept : Definition → Engine → Phase → Type 0
IsKept d e phases.AtRest = IsAtRest d e × Rests d (world_of e.world) × HasAllRoom d e
IsKept d e phases.UnderWay = Counts d nothing e × HasAllRoom d e
IsKept d e phases.Stopped = ⊤

-- what a session is at where an event has come so far
abbrev pub phase_of : Progress → Phase
phase_of (progress.UnderWay course) = phases.UnderWay
phase_of (progress.Ended reply) = phases.AtRest
