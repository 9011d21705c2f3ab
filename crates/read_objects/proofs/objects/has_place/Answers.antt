use Rattle.std.proofs.Common.{◌∙◌, ap, is_some}
use Rattle.read_objects.proofs.objects.has_place.Goals as goal

pub returns : goal.returns
returns c = c.is_some.ensures ∙ ap is_some c.place_in.ensures.place
