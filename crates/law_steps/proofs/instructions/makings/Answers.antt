use Rattle.law_steps.proofs.Instructed.MakeProofs.{makes_are_fine}
use Rattle.law_steps.proofs.instructions.makings.Goals as goal

pub returns : goal.returns
returns c = record { fine = makes_are_fine }
