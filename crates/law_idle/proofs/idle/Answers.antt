use Rattle.law_idle.proofs.IdleProofs.{others_are_idle}
use Rattle.law_idle.proofs.Resting.{costs_are_added, cycles_are_same, depths_are_added, ranks_are_added}
use Rattle.law_idle.proofs.idle.Goals as goal

pub returns : goal.returns
returns c = record {
  idle = others_are_idle;
  costs = costs_are_added;
  depths = depths_are_added;
  ranks = ranks_are_added;
  cycles = cycles_are_same;
}
