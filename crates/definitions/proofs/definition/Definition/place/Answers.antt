use Rattle.std.proofs.Common.{◌∙◌, Some, None, option_map, ap}
use Rattle.definition_format.specs.Meaning.{parts}
use Rattle.definitions.proofs.Ids.{place_found}
use Rattle.definitions.proofs.definition.Definition.place.Goals as goal

pub returns-in_err-place : goal.returns-in_err-place
returns-in_err-place c =
    ap (option_map (λ p. p.0)) c.from_residual.ensures
    ∙ place_found (parts c.self.inside.types c.self.inside.specs c.self.inside.signals c.self.inside.constructed.items c.self.inside.shapes.entries c.self.inside.shaped.items c.self.inside.programs.entries c.self.inside.prototypes.entries c.self.inside.objects.entries c.self.inside.bindings.items c.self.inside.limits) c.args.self.now c.self.view_is c.args.id.now None c.in_err-place.ensures.place

pub returns : goal.returns
returns c = place_found (parts c.self.inside.types c.self.inside.specs c.self.inside.signals c.self.inside.constructed.items c.self.inside.shapes.entries c.self.inside.shaped.items c.self.inside.programs.entries c.self.inside.prototypes.entries c.self.inside.objects.entries c.self.inside.bindings.items c.self.inside.limits) c.args.self.now c.self.view_is c.args.id.now (Some c.in_ok-place.place) c.in_ok-place.ensures.place
