use Rattle.std.proofs.Common.{◌∙◌, ap, sym}
use Rattle.definition_format.specs.Meaning.{object_count}
use Rattle.definition_format.proofs.AllPlaces.{counted}
use Rattle.definitions.proofs.definition.Definition.object_count.Goals as goal

pub returns-clause-count : goal.returns-clause-count
returns-clause-count c = c.len.ensures.len ∙ sym (counted c.self.inside.prototypes.entries c.self.inside.objects.entries) ∙ ap object_count c.self.view_is
