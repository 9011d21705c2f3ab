use Rattle.std.proofs.Common.{◌∙◌}
use Rattle.read_types.proofs.OwnAhead.{has_own}
use Rattle.read_types.proofs.overrides.has_own.Goals as goal

pub returns : goal.returns
returns c = c.contains_key.ensures ∙ has_own c.args.own.now c.args.name.now
