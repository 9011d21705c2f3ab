use Rattle.law_steps.proofs.Tasked.SettlingProofs.{settling_is_fine}
use Rattle.law_steps.proofs.tasks.sink_first_floating.Goals as goal

pub returns : goal.returns
returns c = record { fine = settling_is_fine }
