use Rattle.law_steps.proofs.Instructed.StopProofs.{stops_are_fine}
use Rattle.law_steps.proofs.instructions.stopping.Goals as goal

pub returns : goal.returns
returns c = record { fine = stops_are_fine }
