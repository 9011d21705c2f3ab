-- Which peer an instruction closes: `dispose` closes that of the object, if it has one that is open, unless it was disposed before.
use Rattle.std.specs.Prelude.{◌≡◌, ℕ, Err, None, Ok, Option, cond}
use Rattle.ui_machine.specs.Definition.Programs.{Instruction}
use Rattle.ui_machine.specs.Definition.Programs as words
use Rattle.ui_machine.specs.Instructions.Registers.{operand_in}
use Rattle.ui_machine.specs.Outcome.{Answer}
use Rattle.ui_machine.specs.Rules.Sets.{is_disposed}
use Rattle.ui_machine.specs.State.Config.{World}
use Rattle.ui_machine.specs.State.Objects.{living}
use Rattle.ui_machine.specs.State.Tasks.{Frame}
use Rattle.engine_world.specs.ClosingView.{closed_with, or_number}

-- the peer that a dispose of the object in a register closes
abbrev pub closed_in : World → Answer ℕ → Option ℕ
closed_in w (Ok object) = cond (is_disposed (living w.objects object)) None (closed_with w object)
closed_in w (Err arm) = None

-- a `dispose` leaves the number of the peer that it closed; what the other instructions leave there is not said
abbrev pub LeavesClosed : Instruction → World → Frame → (old new : Option ℕ) → Type 0
LeavesClosed (words.dispose object) w f old new = new ≡ or_number (closed_in w (operand_in w f object)) old
LeavesClosed _ w f old new = Unit {0}
