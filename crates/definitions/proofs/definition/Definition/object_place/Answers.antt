use Rattle.std.proofs.Common.{◌∙◌, option_map, ap}
use Rattle.definition_format.specs.Meaning.{parts}
use Rattle.definition_format.proofs.AllPlaces.{object_found, no_object}
use Rattle.definitions.proofs.definition.Definition.object_place.Goals as goal

pub returns-in_err-number : goal.returns-in_err-number
returns-in_err-number c =
    ap (option_map (λ p. p.0)) c.from_residual.ensures
    ∙ no_object (parts c.self.inside.types c.self.inside.specs c.self.inside.signals c.self.inside.constructed.items c.self.inside.shapes.entries c.self.inside.shaped.items c.self.inside.programs.entries c.self.inside.prototypes.entries c.self.inside.objects.entries c.self.inside.bindings.items c.self.inside.limits) c.args.self.now c.self.view_is c.args.id.now c.in_err-number.ensures.place

pub returns : goal.returns
returns c = object_found (parts c.self.inside.types c.self.inside.specs c.self.inside.signals c.self.inside.constructed.items c.self.inside.shapes.entries c.self.inside.shaped.items c.self.inside.programs.entries c.self.inside.prototypes.entries c.self.inside.objects.entries c.self.inside.bindings.items c.self.inside.limits) c.args.self.now c.self.view_is c.args.id.now c.in_ok-number.number c.in_ok-number.ensures.within c.in_ok-number.ensures.place
