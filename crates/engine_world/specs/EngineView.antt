-- What the engine has come to, as the machine's configuration.
use Rattle.std.specs.Prelude.{◌≡◌, Bool, true, false}
use Rattle.ui_machine.specs.Definition as machine
use Rattle.ui_machine.specs.State.Config as config
use Rattle.ui_machine.specs.State.Tasks as tasks
use Rattle.ui_machine.specs.State.Tasks.{Beginning, Notifying, Running, Transferring}
use Rattle.engine_world.specs.View.{world_of}
use Rattle.engine_world.specs.TaskView.{agenda_of}
use Rattle.engine_world.specs.declared.engine.Engine.{Engine}
use Rattle.engine_world.specs.declared.engine.StepKind.{StepKind}
use Rattle.engine_world.specs.declared.engine.StepKind.TheVariants as mades

abbrev pub config_of : machine.Definition → Engine → config.Config
config_of d e = record { world = world_of e.world; agenda = agenda_of d e; counted = e.counted }

-- the beginning of an emission is counted, a notification's among them, a transfer, and an instruction of a program; no other task is
abbrev pub is_counted : tasks.Task → Bool
is_counted (Notifying object slot) = true
is_counted (Beginning emission) = true
is_counted (Transferring number back) = true
is_counted (Running frame) = true
is_counted _ = false

-- what the step of a task was
abbrev pub IsOfKind : StepKind → tasks.Task → Type 0
IsOfKind mades.Nothing task = ⊥
IsOfKind mades.Uncounted task = is_counted task ≡ false
IsOfKind mades.Counted task = is_counted task ≡ true
