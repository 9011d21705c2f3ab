use Rattle.worked.proofs.Laws.MiddleProofs.{middles}
use Rattle.worked.proofs.law_examples.middles.Goals as goal

pub returns : goal.returns
returns c = middles
