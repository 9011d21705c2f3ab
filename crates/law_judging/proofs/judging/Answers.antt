use Rattle.law_judging.proofs.FaultProofs.{faults_in_order, first_is_told}
use Rattle.law_judging.proofs.TurnProofs.{turned_is_cycle, turned_is_once, cycle_is_told}
use Rattle.law_judging.proofs.CapProofs.{capped_is_solved}
use Rattle.law_judging.proofs.ReckonProofs.{large_is_told, reckoned_is_judged, reckoned_is_accepted}
use Rattle.law_judging.proofs.judging.Goals as goal

pub returns : goal.returns
returns c = record {
  order = faults_in_order;
  first = first_is_told;
  turned = turned_is_cycle;
  once = turned_is_once;
  cycle = cycle_is_told;
  capped = capped_is_solved;
  large = large_is_told;
  judged = reckoned_is_judged;
  accepted = reckoned_is_accepted;
}
