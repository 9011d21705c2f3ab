-- The handlers that an instruction means.
use Rattle.std.specs.Prelude.{ℕ, List, Ok}
use Rattle.ui_machine.specs.declared.arm.Arm.TheVariants as arms
use Rattle.ui_machine.specs.Definition.{Definition}
use Rattle.ui_machine.specs.Definition.Lookups.{program_of}
use Rattle.ui_machine.specs.Instructions.Registers.{operand_in}
use Rattle.ui_machine.specs.Outcome.{Answer, known, ◌>>=◌}
use Rattle.ui_machine.specs.State.Config.{World}
use Rattle.ui_machine.specs.State.Tasks.{Frame}
use Rattle.engine_instructions.specs.declared.matched_handlers.Matched as code

-- those of a program on an object
pub record Matched : Type 0 where
  pub object : ℕ
  pub program : ℕ

abbrev pub matched_of : code.Matched → Matched
matched_of m = record { object = m.object.0; program = m.program }

-- those of the object in a register and of the program of a name
abbrev pub matched_in : Definition → World → Frame → ℕ → List ℕ → Answer Matched
matched_in d w f object program =
    operand_in w f object >>= λ id. known arms.Code (program_of d program) >>= λ number. Ok (record { object = id; program = number })
