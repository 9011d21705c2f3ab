use Rattle.std.proofs.Common.{◌≡◌, None, Some, length}
use Rattle.ui_machine.specs.Definition.Names.{canonical, place_named}
use Rattle.type_tree.specs.Tree.{IsTree}
use Rattle.signal_core.specs.Sources.{AreMarked, ancestor_of, brought_until, declared_until}
use Rattle.signal_core.proofs.table.SignalTable.place.Given as goal

abbrev pub invariant-line : goal.invariant-line
invariant-line l =
    record {
      at : ancestor_of l.tree l.t l.height ≡ Some l.class;
      none : place_named (λ s. s.name) (declared_until l.tree l.self.signals l.class 0) (canonical l.name) ≡ None;
      counted : l.count ≡ length (declared_until l.tree l.self.signals l.class 0);
      marked : AreMarked l.marks (brought_until l.tree l.class 0);
      tree : IsTree l.tree;
    }

abbrev pub decreases-line : goal.decreases-line
decreases-line l = l.height
