use Rattle.std.proofs.Common.{◌≡◌, ◌+◌, ◌≤◌, min, drop}
use Rattle.verify_order.specs.Numbers.{of_node, total}
use Rattle.verify_order.proofs.passes.total.Given as goal

abbrev pub invariant-loop-number : goal.invariant-loop-number
invariant-loop-number l = record {
  within : l.total ≤ l.most;
  so_far : min (l.total + total (of_node l.values) (drop l.number l.nodes)) l.most ≡ min (total (of_node l.values) l.nodes) l.most;
}
