use Rattle.std.proofs.Common.{◌∙◌, sym}
use Rattle.definitions.proofs.Ids.{place_is}
use Rattle.definitions.proofs.places.position_of.Goals as goal

pub returns-clause-place : goal.returns-clause-place
returns-clause-place c = c.get_index_of.ensures.index ∙ sym (place_is c.args.id.now c.args.objects.now.entries)
