use Rattle.std.proofs.Common.{arith}
use Rattle.instance_tables.proofs.Few.{all_few}
use Rattle.instance_tables.proofs.table.Table.hold_few.Goals as goal

pub returns : goal.returns
returns c d o =
    all_few c.self.inside.instances c.self.inside.made c.self.inside.limit c.self.inside.floating.items _ c.self.invariant.0 c.self.view_is
    c.len-lives.ensures.ordered c.self.invariant.4
    (omega (arith, c.len-lives.ensures.len, c.len-lives.ensures.small))
    (omega (arith, c.self.inside.floating.ok.0, c.self.inside.floating.ok.1, c.self.inside.floating.small)) d o
