use Rattle.std.proofs.Common.{◌∙◌}
use Rattle.instance_tables.specs.View.{instances_at}
use Rattle.instance_tables.proofs.Shown.{dead_unheld, lives}
use Rattle.instance_tables.proofs.table.Table.is_live.Goals as goal

pub returns-clause-live : goal.returns-clause-live
returns-clause-live c = c.contains.ensures ∙ lives _ _ c.self.inside.limit c.self.inside.floating.items _ c.self.invariant.0 c.self.view_is _

pub returns-clause-dead : goal.returns-clause-dead
returns-clause-dead c o =
    dead_unheld (instances_at c.self.inside.instances) _ c.self.inside.limit c.self.inside.floating.items _ c.self.invariant.0 c.self.view_is o
