use Rattle.std.proofs.Common.{◌≡◌, ◌∙◌, Some, length, ap, sym, subst, arith}
use Rattle.std.proofs.lemmas.List.{length-map}
use Rattle.signal_core.specs.SignalRows.{ArePlaces, signal_at}
use Rattle.signal_core.specs.Sources.{ancestor_of, declared_of}
use Rattle.signal_core.specs.Table.{IsTable}
use Rattle.signal_core.proofs.PlacesOfSignals.{no_places}
use Rattle.signal_core.proofs.Walks.{child_below, declared_few, marked_child, marked_root, until_child, until_root}
use Rattle.signal_core.proofs.table.SignalTable.places.Goals as goal

pub line-init : goal.line-init
line-init c =
    let none = until_root c.args.tree.now c.args.self.now.signals c.root-class.ensures.tree c.root-class.result.0 c.root-class.ensures.root in
    record {
      at = c.root-class.ensures.above;
      places = subst (ArePlaces c.args.self.now.signals c.new-places.result.items) (sym none) (no_places c.args.self.now.signals c.new-places.result.items c.new-places.ensures.items);
      marked = marked_root c.args.tree.now c.root-class.ensures.tree c.root-class.result.0 c.unmarked-marks.result c.root-class.ensures.root c.unmarked-marks.ensures;
      tree = c.root-class.ensures.tree;
    }

pub returns-then-height-eq0-clause-places : goal.returns-then-height-eq0-clause-places
returns-then-height-eq0-clause-places c =
    let types = c.args.tree.now in
    let itself : ancestor_of types c.args.t 0 ≡ Some c.line.class = ap (ancestor_of types c.args.t) (sym c.if-height-eq0.true) ∙ c.line.invariant.at in
    let same : c.args.t ≡ c.line.class = cc itself in
    subst (λ u. ArePlaces c.args.self.now.signals c.add_brought.new.places.items (declared_of types c.args.self.now.signals u)) (sym same) c.in_ok-add_brought.ensures.places

pub returns-then-height-eq0-clause-few : goal.returns-then-height-eq0-clause-few
returns-then-height-eq0-clause-few c =
    let types = c.args.tree.now in
    let signals = c.args.self.now.signals in
    let long = length-map c.add_brought.new.places.items (signal_at signals) in
    let seen = ap length c.in_ok-add_brought.ensures.places.1 in
    omega (arith, long, seen, declared_few types signals (subst (λ d. IsTable d.signals) c.self.view_is c.self.invariant.0) c.line.class)

pub line-preserved : goal.line-preserved
line-preserved c =
    let types = c.args.tree.now in
    let signals = c.args.self.now.signals in
    let up = child_below types c.args.t c.line.height c.line.class c.ancestor-class.result c.line.invariant.at (λ none. c.if-height-eq0.false none) c.ancestor-class.ensures in
    record {
      at = c.ancestor-class.ensures;
      places = subst (ArePlaces signals c.add_brought.new.places.items) (sym (until_child types signals c.line.invariant.tree c.ancestor-class.result c.line.class up)) c.in_ok-add_brought.ensures.places;
      marked = marked_child types c.line.invariant.tree c.ancestor-class.result c.line.class c.add_brought.new.marks up c.in_ok-add_brought.ensures.marks;
      tree = c.line.invariant.tree;
    }
