use Rattle.law_steps.proofs.Instructed.ThawProofs.{thaws_are_fine}
use Rattle.law_steps.proofs.instructions.thawing.Goals as goal

pub returns : goal.returns
returns c = record { fine = thaws_are_fine }
