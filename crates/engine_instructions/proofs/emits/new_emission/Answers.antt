use Rattle.std.proofs.Common.{sym}
use Rattle.engine_world.specs.View.{world_of}
use Rattle.engine_instructions.specs.EmitView.{emit_of}
use Rattle.engine_instructions.proofs.Calling.{args_able, detail_able, emission_so, signal_able}
use Rattle.engine_instructions.proofs.ObjectSteps.{all_set}
use Rattle.engine_world.specs.FirstPrograms.{first_frame}
use Rattle.engine_instructions.proofs.emits.new_emission.Goals as goal

pub signal_in-signal-requires : goal.signal_in-signal-requires
signal_in-signal-requires c = record {
  able = signal_able c.args.definition.now (world_of c.args.engine.now.world) (first_frame c.args.engine.now) c.args.object.0 (emit_of c.args.emit) c.requires.able
      c.object_in-object.result.0 c.object_in-object.ensures;
  link = c.requires.link.0;
}

pub shared_detail_in-requires : goal.shared_detail_in-requires
shared_detail_in-requires c =
    let able = detail_able c.args.definition.now (world_of c.args.engine.now.world) (first_frame c.args.engine.now) c.args.object.0 (emit_of c.args.emit) c.requires.able
    c.object_in-object.result.0 c.signal_in-signal.result c.object_in-object.ensures c.signal_in-signal.ensures in
    record { able = able; link = c.requires.link.1 }

pub copy_values-requires-clause-set : goal.copy_values-requires-clause-set
copy_values-requires-clause-set c =
    let f = first_frame c.args.engine.now in
    let told = c.in_ok-detail.ensures in
    let able = args_able c.args.definition.now (world_of c.args.engine.now.world) f c.args.object.0 (emit_of c.args.emit) c.requires.able
    c.object_in-object.result.0 c.signal_in-signal.result c.object_in-object.ensures c.signal_in-signal.ensures _ told in
    all_set f c.args.emit.args.now _ (sym c.first_registers-registers.ensures) able

pub returns : goal.returns
returns c =
    let f = first_frame c.args.engine.now in
    let told = c.in_ok-detail.ensures in
    emission_so c.args.definition.now (world_of c.args.engine.now.world) f c.args.object.0 (emit_of c.args.emit) c.requires.able
    c.object_in-object.result.0 c.signal_in-signal.result c.object_in-object.ensures c.signal_in-signal.ensures _ told _
    (c.in_ok-copy_values.ensures f (sym c.first_registers-registers.ensures))
