use Rattle.law_steps.proofs.Instructed.FreezeProofs.{freezes_are_fine}
use Rattle.law_steps.proofs.instructions.freezing.Goals as goal

pub returns : goal.returns
returns c = record { fine = freezes_are_fine }
