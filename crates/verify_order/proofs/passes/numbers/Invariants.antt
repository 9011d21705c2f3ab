use Rattle.verify_order.proofs.Passing.{Passed}
use Rattle.verify_order.proofs.passes.numbers.Given as goal

abbrev pub invariant-loop-place : goal.invariant-loop-place
invariant-loop-place l = Passed l.rules l.most l.dependencies l.order l.values.items l.place
