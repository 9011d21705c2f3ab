use Rattle.signal_core.specs.SignalRows.{ArePlaces}
use Rattle.signal_core.specs.Sources.{AreMarked, brought_until, declared_until}
use Rattle.signal_core.proofs.table.SignalTable.add_brought.Given as goal

abbrev pub invariant-loop-at : goal.invariant-loop-at
invariant-loop-at l = record {
  places : ArePlaces l.self.signals l.places.items (declared_until l.tree l.self.signals l.t l.at);
  marked : AreMarked l.marks (brought_until l.tree l.t l.at);
}
