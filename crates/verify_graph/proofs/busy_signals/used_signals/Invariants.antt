use Rattle.std.proofs.Common.{◌≡◌, length}
use Rattle.verify_graph.specs.Busy.{AreUsedOfTypes}
use Rattle.verify_graph.proofs.busy_signals.used_signals.Given as goal

abbrev pub invariant-loop-number : goal.invariant-loop-number
invariant-loop-number l = record { count : length l.lists.items ≡ l.number; used : AreUsedOfTypes l.lookups l.lists.items }
