use Rattle.std.proofs.Common.{◌≡◌, ◌∙◌, Some, length, slice_get, ap, sym, arith}
use Rattle.signal_core.specs.SignalView.{signal_view}
use Rattle.signal_core.specs.Sources.{declared_of}
use Rattle.signal_core.proofs.Walks.{child_below, got_until, line_down, marked_child, marked_root, until_child, until_root}
use Rattle.signal_core.proofs.table.SignalTable.signal_at.Goals as goal

pub line-init : goal.line-init
line-init c =
    let none = until_root c.args.tree.now c.args.self.now.signals c.root-class.ensures.tree c.root-class.result.0 c.root-class.ensures.root in
    record {
      at = c.root-class.ensures.above;
      past = omega arith;
      counted = ap length (sym none);
      marked = marked_root c.args.tree.now c.root-class.ensures.tree c.root-class.result.0 c.unmarked-marks.result c.root-class.ensures.root c.unmarked-marks.ensures;
      tree = c.root-class.ensures.tree;
    }

pub returns-in-Ok-clause-found : goal.returns-in-Ok-clause-found
returns-in-Ok-clause-found c =
    let types = c.args.tree.now in
    let signals = c.args.self.now.signals in
    line_down types (λ u. slice_get (declared_of types signals u) c.args.place ≡ Some (signal_view c.in-Ok.signal.now))
    (λ t p up has.
    got_until types signals t 0 c.args.place (signal_view c.in-Ok.signal.now) (ap (λ l. slice_get l c.args.place) (until_child types signals c.line.invariant.tree t p up) ∙ has))
    c.args.t c.line.height c.line.class c.line.invariant.at c.in-Ok.ensures.found

pub line-preserved : goal.line-preserved
line-preserved c =
    let up = child_below c.args.tree.now c.args.t c.line.height c.line.class c.ancestor-class.result c.line.invariant.at (λ none. c.if-height-eq0.false none) c.ancestor-class.ensures in
    let child = until_child c.args.tree.now c.args.self.now.signals c.line.invariant.tree c.ancestor-class.result c.line.class up in
    record {
      at = c.ancestor-class.ensures;
      past = c.in-Err.ensures.past;
      counted = c.in-Err.ensures.count ∙ ap length (sym child);
      marked = marked_child c.args.tree.now c.line.invariant.tree c.ancestor-class.result c.line.class c.signal_added.new.marks up c.in-Err.ensures.marks;
      tree = c.line.invariant.tree;
    }
