use Rattle.std.proofs.Common.{◌∙◌, ap, is_some}
use Rattle.read_objects.proofs.prototypes.has_prototype.Goals as goal

pub returns : goal.returns
returns c = c.is_some.ensures ∙ ap is_some c.prototype_of.ensures.place
