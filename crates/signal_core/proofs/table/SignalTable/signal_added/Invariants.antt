use Rattle.std.proofs.Common.{◌≡◌, ◌≤◌, length}
use Rattle.signal_core.specs.Sources.{AreMarked, brought_until, declared_until}
use Rattle.signal_core.proofs.table.SignalTable.signal_added.Given as goal

abbrev pub invariant-loop-at : goal.invariant-loop-at
invariant-loop-at l = (l.count ≡ length (declared_until l.tree l.self.signals l.t l.at)) × (l.count ≤ l.place) × AreMarked l.marks (brought_until l.tree l.t l.at)
