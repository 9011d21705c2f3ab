use Rattle.law_steps.proofs.Tasked.ThawingProofs.{due_thaws_are_fine}
use Rattle.law_steps.proofs.tasks.thawing.Goals as goal

pub returns : goal.returns
returns c = record { fine = due_thaws_are_fine }
