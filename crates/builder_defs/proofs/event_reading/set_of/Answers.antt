use Rattle.param_specs.specs.View.{spec_view}
use Rattle.definition_format.specs.Meaning.{class_at}
use Rattle.read_objects.proofs.PlainKinds.{plain_known}
use Rattle.builder_defs.proofs.event_reading.set_of.Goals as goal

pub given_by-requires : goal.given_by-requires
given_by-requires c =
    let target = c.in_ok-target.target in
    let d = c.args.definition.now in
    let plain = c.types-types.ensures.basic.plain (class_at d target.place.0) target.slot (spec_view target.spec.now) c.in_ok-target.ensures.spec in
    record { known = plain_known d.types target.spec.now.kind (spec_view target.spec.now) plain.kind }
