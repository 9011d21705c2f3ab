use Rattle.verify_order.proofs.Handing.{Handed}
use Rattle.verify_order.proofs.chains.ranks.Given as goal

abbrev pub invariant-loop-behind : goal.invariant-loop-behind
invariant-loop-behind l = Handed l.counts l.dependencies l.order l.ranks.items l.behind
