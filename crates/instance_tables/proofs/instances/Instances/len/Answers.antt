use Rattle.std.proofs.Common.{◌∙◌}
use Rattle.instance_tables.proofs.Slabs.{as_many, in_rising_order}
use Rattle.instance_tables.proofs.instances.Instances.len.Goals as goal

pub returns-clause-len : goal.returns-clause-len
returns-clause-len c = c.len.ensures.len ∙ as_many c.self.inside.entries c.self.inside.keys _ c.self.invariant c.self.view_is

pub returns-clause-ordered : goal.returns-clause-ordered
returns-clause-ordered c = in_rising_order c.self.inside.entries c.self.inside.keys _ c.self.invariant c.self.view_is
