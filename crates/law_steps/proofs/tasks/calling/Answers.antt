use Rattle.law_steps.proofs.Tasked.CallingProofs.{due_calls_are_fine}
use Rattle.law_steps.proofs.tasks.calling.Goals as goal

pub returns : goal.returns
returns c = record { fine = due_calls_are_fine }
