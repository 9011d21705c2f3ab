use Rattle.std.proofs.Common.{◌∙◌, sym}
use Rattle.definitions.proofs.Ids.{shape_is}
use Rattle.definitions.proofs.shapes.shape_of.Goals as goal

pub returns : goal.returns
returns c = c.get_index_of.ensures.index ∙ sym (shape_is c.args.name.now c.args.shapes.now.entries)
