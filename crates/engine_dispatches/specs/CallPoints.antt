-- Where a run has come to as a call is due, and as it is done.
use Rattle.std.specs.Prelude.{◌≡◌, ◌∷◌, List, Ok, Some, true}
use Rattle.ui_machine.specs.Definition.{Definition}
use Rattle.ui_machine.specs.Instructions.Peers.{calling_on}
use Rattle.ui_machine.specs.State.Config.{Config, is_asked}
use Rattle.ui_machine.specs.State.Peers.{Reply}
use Rattle.ui_machine.specs.State.References.{in_task}
use Rattle.ui_machine.specs.State.Tasks.{Calling}
use Rattle.ui_machine.specs.Steps.{left}
use Rattle.native_peers.specs.Seen.{Seen}
use Rattle.engine_world.specs.Counting.{Counts}
use Rattle.engine_world.specs.EngineView.{config_of}
use Rattle.engine_world.specs.TaskView.{agenda_of}
use Rattle.engine_stack.specs.TaskView.{call_of}
use Rattle.engine_world.specs.View.{world_of}
use Rattle.engine_world.specs.declared.engine.Engine.{Engine}
use Rattle.engine_stack.specs.declared.task.DueCall.{DueCall}
use Rattle.engine_dispatches.specs.Following.{Point}
use Rattle.engine_dispatches.specs.Safety.{NoneUnheld}

-- an engine beside a pool
abbrev pub point_of : Definition → List Seen → Engine → Point
point_of d pool e = record { pool = pool; view = config_of d e }

-- the engine's configuration with the call for its first task
abbrev pub calling_view : Definition → Engine → DueCall → Config
calling_view d e call = record { world = world_of e.world; agenda = Calling (call_of call) ∷ agenda_of d e; counted = e.counted }

abbrev pub calling_point : Definition → List Seen → Engine → DueCall → Point
calling_point d pool e call = record { pool = pool; view = calling_view d e call }

-- by some reply the call leads to this
pub record Concludes (d : Definition) (e : Engine) (call : DueCall) (new : Config) : Type 0 where
  pub reply : Reply
  pub leads : left e.counted (calling_on d (world_of e.world) (call_of call) (agenda_of d e) (Some reply)) ≡ Ok new

-- a call of an open peer was the first task, where nothing is to be finalised, and was taken
pub record TakesCall (d : Definition) (old : Engine) (call : DueCall) (new : Engine) : Type 0 where
  pub first : config_of d old ≡ calling_view d new call
  pub none : NoneUnheld d (calling_view d new call)
  pub asked : is_asked (world_of new.world) call.peer ≡ true
  pub counted : Counts d (λ o. in_task o (Calling (call_of call))) new
