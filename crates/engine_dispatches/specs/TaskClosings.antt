-- Which peer a task leaves as closed.
use Rattle.std.specs.Prelude.{ℕ, None, Option, Some}
use Rattle.ui_machine.specs.Definition.{Definition}
use Rattle.ui_machine.specs.Definition.Lookups.{program_at}
use Rattle.ui_machine.specs.Definition.Programs.{Program}
use Rattle.ui_machine.specs.State.Config.{World}
use Rattle.ui_machine.specs.State.Tasks.{Frame, Running, Task}
use Rattle.frames.specs.FrameView.{Taken, taken_in}
use Rattle.engine_instructions.specs.ClosedPeers.{LeavesClosed}

-- the instruction that a program takes; where it takes none nothing is said
abbrev pub TakenLeaves : World → Option Taken → (old new : Option ℕ) → Type 0
TakenLeaves w None old new = Unit {0}
TakenLeaves w (Some t) old new = LeavesClosed t.instruction w t.frame old new

abbrev pub ProgramLeaves : World → Frame → Option Program → (old new : Option ℕ) → Type 0
ProgramLeaves w f None old new = Unit {0}
ProgramLeaves w f (Some p) old new = TakenLeaves w (taken_in p f) old new

-- of a task that runs no program nothing is said
abbrev pub TaskLeaves : Definition → World → Task → (old new : Option ℕ) → Type 0
TaskLeaves d w (Running f) old new = ProgramLeaves w f (program_at d f.program) old new
TaskLeaves d w task old new = Unit {0}
