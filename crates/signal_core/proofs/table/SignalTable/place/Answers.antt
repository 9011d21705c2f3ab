use Rattle.std.proofs.Common.{◌≡◌, ◌∙◌, Some, length, ap, sym}
use Rattle.ui_machine.specs.Definition.Names.{canonical, place_named}
use Rattle.ui_machine.specs.Definition.Signals.{Signal}
use Rattle.signal_core.specs.Sources.{declared_of}
use Rattle.signal_core.proofs.Walks.{child_below, found_until, line_down, marked_child, marked_root, until_child, until_root}
use Rattle.signal_core.proofs.table.SignalTable.place.Goals as goal

pub line-init : goal.line-init
line-init c =
    let none = until_root c.args.tree.now c.args.self.now.signals c.root-class.ensures.tree c.root-class.result.0 c.root-class.ensures.root in
    record {
      at = c.root-class.ensures.above;
      none = ap (λ l. place_named (λ (s : Signal). s.name) l (canonical c.args.name.now)) none;
      counted = ap length (sym none);
      marked = marked_root c.args.tree.now c.root-class.ensures.tree c.root-class.result.0 c.unmarked-marks.result c.root-class.ensures.root c.unmarked-marks.ensures;
      tree = c.root-class.ensures.tree;
    }

pub returns-in-Ok-clause-found : goal.returns-in-Ok-clause-found
returns-in-Ok-clause-found c =
    let types = c.args.tree.now in
    let signals = c.args.self.now.signals in
    let name = canonical c.args.name.now in
    line_down types (λ u. place_named (λ (s : Signal). s.name) (declared_of types signals u) name ≡ Some c.in-Ok.place)
    (λ t p up has.
    found_until types signals name t 0 c.in-Ok.place (ap (λ l. place_named (λ (s : Signal). s.name) l name) (until_child types signals c.line.invariant.tree t p up) ∙ has))
    c.args.t c.line.height c.line.class c.line.invariant.at c.in-Ok.ensures.found

pub line-preserved : goal.line-preserved
line-preserved c =
    let up = child_below c.args.tree.now c.args.t c.line.height c.line.class c.ancestor-class.result c.line.invariant.at (λ none. c.if-height-eq0.false none) c.ancestor-class.ensures in
    let child = until_child c.args.tree.now c.args.self.now.signals c.line.invariant.tree c.ancestor-class.result c.line.class up in
    record {
      at = c.ancestor-class.ensures;
      none = ap (λ l. place_named (λ (s : Signal). s.name) l (canonical c.args.name.now)) child ∙ c.in-Err.ensures.none;
      counted = c.in-Err.ensures.count ∙ ap length (sym child);
      marked = marked_child c.args.tree.now c.line.invariant.tree c.ancestor-class.result c.line.class c.place_added.new.marks up c.in-Err.ensures.marks;
      tree = c.line.invariant.tree;
    }
