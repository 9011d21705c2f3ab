use Rattle.std.proofs.Common.{◌∙◌, ap, is_some}
use Rattle.instance_tables.proofs.Slabs.{has_key}
use Rattle.instance_tables.proofs.instances.Instances.contains.Goals as goal

pub returns : goal.returns
returns c = c.is_some.ensures ∙ ap is_some c.key_of.ensures ∙ has_key c.self.inside.entries c.self.inside.keys _ c.self.invariant c.self.view_is c.args.id.0
