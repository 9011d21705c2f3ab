use Rattle.law_steps.proofs.Tasked.NotifyingProofs.{due_notifications_are_fine}
use Rattle.law_steps.proofs.tasks.notifying.Goals as goal

pub returns : goal.returns
returns c = record { fine = due_notifications_are_fine }
