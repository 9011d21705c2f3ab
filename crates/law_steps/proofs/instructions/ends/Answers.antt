use Rattle.law_steps.proofs.Instructed.ReturnProofs.{returns_are_fine}
use Rattle.law_steps.proofs.instructions.ends.Goals as goal

pub returns : goal.returns
returns c = record { fine = returns_are_fine }
