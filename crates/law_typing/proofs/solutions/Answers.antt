use Rattle.law_typing.proofs.OneSolutionProofs.{one_ranking, one_cost, one_depth}
use Rattle.law_typing.proofs.PairProofs.{accepted_is_paired, accepted_once}
use Rattle.law_typing.proofs.solutions.Goals as goal

pub returns : goal.returns
returns c = record { ranks = one_ranking; costs = one_cost; depths = one_depth; paired = accepted_is_paired; once = accepted_once }
