use Rattle.verify_order.specs.Searches.{AreDone, state}
use Rattle.verify_order.proofs.searches.Search.first_waiting.Given as goal

abbrev pub invariant-loop-number : goal.invariant-loop-number
invariant-loop-number l = AreDone (state l.self.passed l.self.path l.self.place l.self.order l.self.position) l.edges l.number
