-- What steps of the engine come to in which no peer is asked, whatever pool is beside it.
use Rattle.std.specs.Prelude.{◌≡◌, ◌<◌, suc, ℕ, List, Option, Result, Ok, Err, OnOk}
use Rattle.std.specs.declared.alloc.AllocError.{AllocError}
use Rattle.ui_machine.specs.Definition.{Definition}
use Rattle.ui_machine.specs.Prefix.{IsPrefix}
use Rattle.ui_machine.specs.Runs.{HasEnded}
use Rattle.ui_machine.specs.State.Config.{Config, World}
use Rattle.ui_machine.specs.Steps.{most_steps}
use Rattle.native_peers.specs.Seen.{Seen}
use Rattle.engine_world.specs.Counting.{Counts, nothing}
use Rattle.engine_world.specs.EngineView.{config_of}
use Rattle.engine_world.specs.Measure.{work}
use Rattle.engine_world.specs.Quiet.{IsQuiet}
use Rattle.engine_world.specs.Room.{SameRoom}
use Rattle.engine_world.specs.Standing.{Follows}
use Rattle.engine_world.specs.View.{world_of}
use Rattle.engine_world.specs.declared.engine.Engine.{Engine}
use Rattle.engine_world.specs.declared.engine.StepKind.{StepKind}
use Rattle.engine_world.specs.declared.engine.StepKind.TheVariants as mades
use Rattle.engine_dispatches.specs.PoolView.{Knows, closed_in, due}
use Rattle.engine_dispatches.specs.Safety.{ComesOfSafe}

-- beside some pool the engine's configuration is that of a safe one of the machine
pub record IsSafeView (d : Definition) (room : ℕ) (view : Config) : Type 0 where
  pub pool : List Seen
  pub safe : ComesOfSafe d room (record { pool = pool; view = view })

-- One step: an uncounted one leaves less work, and a counted one was still to be had. Where no memory is found nothing was said, and no
-- peer has become another object's.
abbrev pub QuietlyStepped : Result StepKind AllocError → Definition → Config → Config → Type 0
QuietlyStepped (Ok mades.Nothing) d c e = HasEnded d c × (e ≡ c)
QuietlyStepped (Ok mades.Uncounted) d c e = Follows d c e × (work d e < work d c) × (e.counted ≡ c.counted)
QuietlyStepped (Ok mades.Counted) d c e = Follows d c e × (c.counted < most_steps) × (e.counted ≡ suc c.counted)
QuietlyStepped (Err _) d c e = IsQuiet c.world e.world

-- a pool that was known is known again once the box of the seat that was left is closed, if it is due
abbrev pub LeavesKnown : World → World → Option ℕ → Type 0
LeavesKnown w v left = (pool : List Seen) → Knows w pool → Knows v (closed_in (due v pool left) pool)

-- What the engine does in such a step. Where memory is found, each object is counted as often as it is mentioned.
pub record StepsQuietly (result : Result StepKind AllocError) (d : Definition) (old new : Engine) : Type 0 where
  pub counted : OnOk result (Counts d nothing new)
  pub stepped : QuietlyStepped result d (config_of d old) (config_of d new)
  pub known : OnOk result (LeavesKnown (world_of old.world) (world_of new.world) new.closing)
  pub grows : IsPrefix (world_of old.world).transcript (world_of new.world).transcript
  pub room : SameRoom old new
