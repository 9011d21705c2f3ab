use Rattle.param_specs.specs.View.{spec_view}
use Rattle.read_objects.proofs.PlainKinds.{plain_known}
use Rattle.read_objects.proofs.filled.read_entry.Goals as goal

pub fill-requires : goal.fill-requires
fill-requires c =
    let property = c.in_ok-property.property in
    let target = c.args.target.now in
    let plain = c.requires.at target.class property.slot (spec_view property.spec.now) c.in_ok-property.ensures.spec in
    plain_known target.types.now property.spec.now.kind (spec_view property.spec.now) plain.kind
