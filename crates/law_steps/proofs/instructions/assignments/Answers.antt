use Rattle.law_steps.proofs.Instructed.SetProofs.{sets_are_fine}
use Rattle.law_steps.proofs.instructions.assignments.Goals as goal

pub returns : goal.returns
returns c = record { fine = sets_are_fine }
