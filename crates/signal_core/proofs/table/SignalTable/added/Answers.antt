use Rattle.std.proofs.Common.{◌∙◌, ap, sym}
use Rattle.signal_core.specs.Sources.{own_of}
use Rattle.signal_core.proofs.Walks.{added-before, added-first}
use Rattle.signal_core.proofs.table.SignalTable.added.Goals as goal

pub returns-then-came_before : goal.returns-then-came_before
returns-then-came_before c = added-before c.args.tree.now c.args.self.now.signals c.args.t c.args.place (sym c.came_before.ensures ∙ c.if-came_before.true)

pub returns-else-came_before : goal.returns-else-came_before
returns-else-came_before c =
    c.own.ensures.own ∙ ap (own_of c.args.self.now.signals) c.source_at.ensures
    ∙ added-first c.args.tree.now c.args.self.now.signals c.args.t c.args.place (sym c.came_before.ensures ∙ c.if-came_before.false)
