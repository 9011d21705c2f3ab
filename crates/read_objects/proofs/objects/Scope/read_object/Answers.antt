use Rattle.std.proofs.Common.{◌∙◌, map, ap}
use Rattle.ui_machine.specs.Definition.Names.{place_named}
use Rattle.ui_machine.specs.Definition.Places.{Place}
use Rattle.definition_format.specs.Meaning.{plain_object, plain_prototype}
use Rattle.definition_format.proofs.AllPlaces.{not_taken}
use Rattle.read_objects.proofs.objects.Scope.read_object.Goals as goal

pub returns-clause-new : goal.returns-clause-new
returns-clause-new c =
    let objects = map plain_object c.args.objects.now.entries in
    ap (place_named (λ (p : Place). p.id) objects) c.in_ok-id-2.ensures.ok
    ∙ not_taken (λ (p : Place). p.id) c.in_ok-id.id.now objects (map plain_prototype c.args.self.now.prototypes.now.entries) c.has_place.result c.has_place.ensures c.in_ok-check_id.ensures.new
