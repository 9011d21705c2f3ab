use Rattle.std.proofs.Common.{ℕ}
use Rattle.verify_order.specs.Searches.{IsDone, IsSearch, left, state}
use Rattle.verify_order.proofs.searches.Search.visit.Given as goal

abbrev pub invariant-steps : goal.invariant-steps
invariant-steps l = record {
  search : IsSearch l.dependencies (state l.self.passed l.self.path l.self.place l.self.order l.self.position);
  kept : (n : ℕ) → IsDone (state l.initial.self.passed l.initial.self.path l.initial.self.place l.initial.self.order l.initial.self.position) n →
      IsDone (state l.self.passed l.self.path l.self.place l.self.order l.self.position) n;
}

abbrev pub decreases-steps : goal.decreases-steps
decreases-steps l = left l.dependencies (state l.self.passed l.self.path l.self.place l.self.order l.self.position)
