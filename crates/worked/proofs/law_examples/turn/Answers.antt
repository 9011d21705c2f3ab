use Rattle.worked.proofs.Laws.TurnProofs.{turn_keeps}
use Rattle.worked.proofs.law_examples.turn.Goals as goal

pub returns : goal.returns
returns c = turn_keeps
