use Rattle.law_steps.proofs.Instructed.AttachProofs.{attachments_are_fine}
use Rattle.law_steps.proofs.instructions.attaching.Goals as goal

pub returns : goal.returns
returns c = record { fine = attachments_are_fine }
