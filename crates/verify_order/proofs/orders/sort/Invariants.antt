use Rattle.std.proofs.Common.{◌<◌, ℕ}
use Rattle.verify_order.specs.Searches.{IsDone, IsSearch}
use Rattle.verify_order.proofs.orders.sort.Given as goal

abbrev pub invariant-loop-root : goal.invariant-loop-root
invariant-loop-root l = record {
  search : IsSearch l.dependencies l.search;
  done : (n : ℕ) → n < l.root → IsDone l.search n;
}
