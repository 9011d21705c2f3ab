use Rattle.std.proofs.Common.{◌≡◌, Some}
use Rattle.type_tree.specs.Tree.{IsTree}
use Rattle.signal_core.specs.SignalRows.{ArePlaces}
use Rattle.signal_core.specs.Sources.{AreMarked, ancestor_of, brought_until, declared_until}
use Rattle.signal_core.proofs.table.SignalTable.places.Given as goal

abbrev pub invariant-line : goal.invariant-line
invariant-line l = record {
  at : ancestor_of l.tree l.t l.height ≡ Some l.class;
  places : ArePlaces l.self.signals l.places.items (declared_until l.tree l.self.signals l.class 0);
  marked : AreMarked l.marks (brought_until l.tree l.class 0);
  tree : IsTree l.tree;
}

abbrev pub decreases-line : goal.decreases-line
decreases-line l = l.height
