use Rattle.law_typing.proofs.RankProofs.{ranks_rise, ranked_is_acyclic}
use Rattle.law_typing.proofs.EdgeProofs.{edges_lead_to_nodes}
use Rattle.law_typing.proofs.CycleProofs.{unranked_has_cycle}
use Rattle.law_typing.proofs.ranks.Goals as goal

pub returns : goal.returns
returns c = record { rise = ranks_rise; lead = edges_lead_to_nodes; acyclic = ranked_is_acyclic; cycle = unranked_has_cycle }
