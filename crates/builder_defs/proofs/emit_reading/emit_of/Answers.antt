use Rattle.signal_core.specs.SignalView.{declared_view}
use Rattle.definition_format.specs.Meaning.{class_at}
use Rattle.builder_defs.proofs.emit_reading.emit_of.Goals as goal

pub arguments_of-requires : goal.arguments_of-requires
arguments_of-requires c =
    let target = c.in_ok-target.target in
    let d = c.args.definition.now in
    (c.types-types.ensures.basic.signal_kinds (class_at d target.place.0) target.number (declared_view target.signal) c.in_ok-target.ensures.signal).params
