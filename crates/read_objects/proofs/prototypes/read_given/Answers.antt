use Rattle.param_specs.specs.View.{spec_view}
use Rattle.read_objects.proofs.PlainKinds.{plain_known}
use Rattle.read_objects.proofs.prototypes.read_given.Goals as goal

pub value_in-requires : goal.value_in-requires
value_in-requires c =
    let property = c.in_ok-property.property in
    let plain = c.requires.at c.args.class property.slot (spec_view property.spec.now) c.in_ok-property.ensures.spec in
    plain_known c.args.types.now property.spec.now.kind (spec_view property.spec.now) plain.kind
