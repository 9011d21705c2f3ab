use Rattle.law_steps.proofs.Instructed.JumpProofs.{jumps_are_fine}
use Rattle.law_steps.proofs.instructions.jumps.Goals as goal

pub returns : goal.returns
returns c = record { fine = jumps_are_fine }
