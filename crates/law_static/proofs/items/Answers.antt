use Rattle.law_static.proofs.MakingsProofs.{objects_come_first, items_cost_less, all_are_made}
use Rattle.law_static.proofs.FollowProofs.{adopts_follow, forwards_follow, bindings_follow}
use Rattle.law_static.proofs.items.Goals as goal

pub returns : goal.returns
returns c = record { first = objects_come_first; less = items_cost_less; made = all_are_made; adopts = adopts_follow; forwards = forwards_follow; bindings = bindings_follow }
