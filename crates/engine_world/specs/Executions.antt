-- What code does that carries out an instruction or a task, as a part of the machine's step.
use Rattle.std.specs.Prelude.{ℕ, OnErr, OnOk, Result}
use Rattle.std.specs.declared.alloc.AllocError.{AllocError}
use Rattle.ui_machine.specs.Definition.{Definition}
use Rattle.ui_machine.specs.Outcome.{Answer}
use Rattle.ui_machine.specs.State.Config.{Config, Started, World}
use Rattle.ui_machine.specs.Steps.{counted, uncounted}
use Rattle.engine_world.specs.Able.{Leads, LeadsWithoutGone}
use Rattle.engine_world.specs.Counting.{Counts, KeepsCounts, nothing}
use Rattle.engine_world.specs.EngineView.{config_of}
use Rattle.engine_world.specs.Quiet.{IsQuiet}
use Rattle.engine_world.specs.Room.{SameRoom}
use Rattle.engine_world.specs.TaskView.{agenda_of}
use Rattle.engine_world.specs.View.{world_of}
use Rattle.engine_world.specs.declared.engine.Engine.{Engine}

-- Where memory is found, code leads to just what the machine's part leads to. Then each object is counted as often as it is mentioned, and so often
-- more as is said: so much holds a task that was taken off. Where no memory is found, no line was said, and each peer is whose it was.
pub record ExecutesHolding {X : Type 0} (result : Result X AllocError) (d : Definition) (old new : Engine) (held : ℕ → ℕ) (part : Answer Config) : Type 0 where
  pub step : Leads result part (config_of d new)
  pub quiet : OnErr result (IsQuiet (world_of old.world) (world_of new.world))
  pub counted : OnOk result (Counts d held new)
  pub room : SameRoom old new

-- the same, where no task was taken off
abbrev pub Executes : {X : Type 0} → Result X AllocError → Definition → (old new : Engine) → (part : Answer Config) → Type 0
Executes result d old new part = ExecutesHolding result d old new nothing part

-- the same as both, but for the turns of handlers that are gone by then
pub record ExecutesWithoutGone {X : Type 0} (result : Result X AllocError) (d : Definition) (old new : Engine) (held : ℕ → ℕ) (part : Answer Config) : Type 0 where
  pub step : LeadsWithoutGone result part (config_of d new)
  pub quiet : OnErr result (IsQuiet (world_of old.world) (world_of new.world))
  pub counted : OnOk result (Counts d held new)
  pub room : SameRoom old new

-- the same as the first, whatever a task that was taken off holds: what was counted still is
pub record Acts {X : Type 0} (result : Result X AllocError) (d : Definition) (old new : Engine) (part : Answer Config) : Type 0 where
  pub step : Leads result part (config_of d new)
  pub quiet : OnErr result (IsQuiet (world_of old.world) (world_of new.world))
  pub counted : OnOk result (KeepsCounts d old new)
  pub room : SameRoom old new

-- ** the machine's part

-- what puts its tasks before the others and is no counted step
abbrev pub uncounted_step : Definition → Engine → (World → Answer Started) → Answer Config
uncounted_step d e part = uncounted (agenda_of d e) e.counted (part (world_of e.world))

-- what puts its tasks before the others, as a counted step
abbrev pub counted_step : Definition → Engine → (World → Answer Started) → Answer Config
counted_step d e part = counted (agenda_of d e) e.counted (part (world_of e.world))
