use Rattle.law_steps.proofs.Instructed.DisposeStep.{disposes_are_fine}
use Rattle.law_steps.proofs.instructions.disposing.Goals as goal

pub returns : goal.returns
returns c = record { fine = disposes_are_fine }
