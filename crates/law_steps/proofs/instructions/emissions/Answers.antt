use Rattle.law_steps.proofs.Instructed.EmitProofs.{emits_are_fine}
use Rattle.law_steps.proofs.instructions.emissions.Goals as goal

pub returns : goal.returns
returns c = record { fine = emits_are_fine }
