use Rattle.law_steps.proofs.Instructed.RegisterProofs.{registers_are_fine}
use Rattle.law_steps.proofs.instructions.of_registers.Goals as goal

pub returns : goal.returns
returns c = record { fine = registers_are_fine }
