use Rattle.law_steps.proofs.Tasked.BeginningProofs.{beginnings_are_fine}
use Rattle.law_steps.proofs.tasks.beginning.Goals as goal

pub returns : goal.returns
returns c = record { fine = beginnings_are_fine }
