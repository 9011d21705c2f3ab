use Rattle.std.proofs.Common.{◌∙◌, sym}
use Rattle.signal_core.proofs.Walks.{class_handler-child}
use Rattle.signal_core.proofs.table.SignalTable.handler_named.Goals as goal

pub line-preserved : goal.line-preserved
line-preserved c =
    class_handler-child c.args.tree.now c.in-Some-parent.ensures.tree c.args.self.now.handlers c.line.class c.in-Some-parent.parent c.args.name.now (sym c.in-Some-parent.ensures.parent)
    (sym c.own_handler.ensures ∙ c.in_default.is)
    ∙ c.line.invariant
