use Rattle.std.proofs.Common.{◌∙◌, length, ap, refl, sym, arith}
use Rattle.std.proofs.lemmas.List.{length-map}
use Rattle.signal_core.specs.SignalView.{signal_view}
use Rattle.signal_core.specs.Table.{line_count}
use Rattle.signal_core.proofs.Walks.{line_count-child}
use Rattle.signal_core.proofs.table.SignalTable.line_count.Goals as goal

pub line-preserved : goal.line-preserved
line-preserved c =
    let own = sym (length-map c.own.result.now signal_view) ∙ ap length c.own.ensures.own in
    let above = line_count-child c.args.tree.now c.in-Some.ensures.tree c.args.self.now.signals c.line.class c.in-Some.parent (length c.own.result.now)
    (line_count c.args.tree.now c.args.self.now.signals c.in-Some.parent) (sym c.in-Some.ensures.parent) own refl in
    record {
      counted = omega (arith, above, c.line.invariant.counted);
      few = omega (arith, c.line.invariant.few, c.own.ensures.few, c.in-Some.ensures.before);
    }
