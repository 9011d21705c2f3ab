use Rattle.law_steps.proofs.Tasked.RequestProofs.{requests_are_fine}
use Rattle.law_steps.proofs.tasks.request_step.Goals as goal

pub returns : goal.returns
returns c = record { fine = requests_are_fine }
