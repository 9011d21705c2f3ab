-- What an instruction reads of the registers of its frame, as the machine says it.
use Rattle.std.specs.Prelude.{ℕ, None}
use Rattle.ui_machine.specs.declared.arm.Arm.TheVariants as arms
use Rattle.ui_machine.specs.Instructions.Registers.{identity_of}
use Rattle.ui_machine.specs.Outcome.{Answer, known, ◌>>=◌}
use Rattle.ui_machine.specs.Seq.{read}
use Rattle.ui_machine.specs.State.Tasks.{Registers}

-- the identity that a register names
abbrev pub identity_in : Registers → ℕ → Answer ℕ
identity_in registers from = known arms.Register (read None registers from) >>= identity_of
