use Rattle.law_steps.proofs.Tasked.FreeingProofs.{freeings_are_fine}
use Rattle.law_steps.proofs.tasks.freeing.Goals as goal

pub returns : goal.returns
returns c = record { fine = freeings_are_fine }
