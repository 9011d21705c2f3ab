use Rattle.law_steps.proofs.Tasked.StartingProofs.{sources_are_fine, runs_are_fine}
use Rattle.law_steps.proofs.Tasked.ConstructingProofs.{constructions_set}
use Rattle.law_steps.proofs.Tasked.ThawedProofs.{constructions_thaw}
use Rattle.law_steps.proofs.tasks.starting.Goals as goal

pub returns : goal.returns
returns c = record { sources = sources_are_fine; runs = runs_are_fine; sets = constructions_set; thaws = constructions_thaw; answers = λ d a most_counted w rest n source g. g.agenda.3 }
