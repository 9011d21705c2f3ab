use Rattle.worked.proofs.Laws.PairReads.{pair_met}
use Rattle.worked.proofs.law_examples.pair.Goals as goal

pub returns : goal.returns
returns c = pair_met
