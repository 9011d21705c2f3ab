use Rattle.std.proofs.Common.{◌∙◌, sym}
use Rattle.definitions.proofs.Ids.{prototype_is}
use Rattle.definitions.proofs.places.prototype_of.Goals as goal

pub returns-clause-place : goal.returns-clause-place
returns-clause-place c = c.get_index_of.ensures.index ∙ sym (prototype_is c.args.id.now c.args.prototypes.now.entries)
