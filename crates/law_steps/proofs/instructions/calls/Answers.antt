use Rattle.law_steps.proofs.Instructed.CallProofs.{calls_are_fine}
use Rattle.law_steps.proofs.instructions.calls.Goals as goal

pub returns : goal.returns
returns c = record { fine = calls_are_fine }
