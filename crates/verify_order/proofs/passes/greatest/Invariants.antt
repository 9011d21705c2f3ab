use Rattle.std.proofs.Common.{◌≡◌, max, drop}
use Rattle.verify_order.specs.Numbers.{greatest, of_node}
use Rattle.verify_order.proofs.passes.greatest.Given as goal

abbrev pub invariant-loop-number : goal.invariant-loop-number
invariant-loop-number l =
    max l.greatest (greatest (of_node l.values) (drop l.number l.nodes)) ≡ greatest (of_node l.values) l.nodes
