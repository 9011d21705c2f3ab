use Rattle.law_steps.proofs.Tasked.BuildEndProofs.{builds_end}
use Rattle.law_steps.proofs.Tasked.BuildAdoptionsProofs.{adoptions_are_fine}
use Rattle.law_steps.proofs.Tasked.BuildBindingsProofs.{bindings_are_fine}
use Rattle.law_steps.proofs.Tasked.BuildForwardsProofs.{forwards_are_fine}
use Rattle.law_steps.proofs.Tasked.BuildSignalsProofs.{signals_are_fine}
use Rattle.law_steps.proofs.Tasked.BuildObjectsProofs.{objects_are_fine}
use Rattle.law_steps.proofs.tasks.building.Goals as goal

pub returns : goal.returns
returns c = record {
  objects = objects_are_fine;
  adoptions = adoptions_are_fine;
  forwards = forwards_are_fine;
  bindings = bindings_are_fine;
  signals = signals_are_fine;
  end = builds_end;
}
