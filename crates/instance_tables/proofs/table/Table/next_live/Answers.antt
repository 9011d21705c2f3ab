use Rattle.instance_tables.proofs.Following.{next_lives}
use Rattle.instance_tables.proofs.table.Table.next_live.Goals as goal

pub returns : goal.returns
returns c =
    next_lives c.self.inside.instances _ c.self.inside.limit c.self.inside.floating.items _ c.self.invariant.0 c.self.view_is
    c.first_from.ensures.ordered c.args.from.0 _ c.first_from.ensures.first
