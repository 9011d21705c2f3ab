use Rattle.law_steps.proofs.Instructed.NotifyProofs.{notifies_are_fine}
use Rattle.law_steps.proofs.instructions.notifications.Goals as goal

pub returns : goal.returns
returns c = record { fine = notifies_are_fine }
