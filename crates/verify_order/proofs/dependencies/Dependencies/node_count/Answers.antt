use Rattle.std.proofs.Common.{ap, arith, length}
use Rattle.verify_order.proofs.Kept.{as_many}
use Rattle.verify_order.proofs.dependencies.Dependencies.node_count.Goals as goal

pub returns : goal.returns
returns c = omega (arith, c.len.ensures, c.self.inside.starts.ok.0, as_many c.self.inside.starts.items c.self.inside.targets.items, ap length c.self.view_is)
