use Rattle.law_steps.proofs.Instructed.ConnectProofs.{connects_are_fine}
use Rattle.law_steps.proofs.instructions.connecting.Goals as goal

pub returns : goal.returns
returns c = record { fine = connects_are_fine }
