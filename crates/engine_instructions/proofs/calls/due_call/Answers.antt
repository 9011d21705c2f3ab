use Rattle.std.proofs.Common.{map, string_bytes, sym}
use Rattle.bytecode.specs.View.{number_of}
use Rattle.engine_world.specs.View.{world_of}
use Rattle.engine_world.proofs.Ableness.{no_arm}
use Rattle.engine_instructions.specs.CallingView.{called_view}
use Rattle.engine_instructions.proofs.ObjectSteps.{all_set, operand_lives}
use Rattle.engine_instructions.proofs.PeerCalls.{called_able, is_due, values_able}
use Rattle.engine_world.specs.FirstPrograms.{first_frame}
use Rattle.engine_instructions.proofs.calls.due_call.Goals as goal

pub method_called-requires : goal.method_called-requires
method_called-requires c = record { meanings = c.requires.meanings; link = rw c.as_str-name.ensures.value c.requires.link; live = operand_lives (world_of c.args.engine.now.world) (first_frame c.args.engine.now) c.args.call.now.object.0 c.object_in-object.result.0 c.object_in-object.ensures }

pub unreachable-requires : goal.unreachable-requires
unreachable-requires c =
    let call = c.args.call.now in
    let able = called_able c.args.definition.now (world_of c.args.engine.now.world) (first_frame c.args.engine.now) call.to.0 call.object.0 (string_bytes call.method) (map number_of call.args.items) c.requires.able
    c.object_in-object.result.0 c.object_in-object.ensures in
    no_arm _ _ able (sym (rw c.as_str-name.ensures.value at c.in_default.ensures.called))

pub copy_values-requires-clause-set : goal.copy_values-requires-clause-set
copy_values-requires-clause-set c =
    let f = first_frame c.args.engine.now in
    let call = c.args.call.now in
    let able = values_able c.args.definition.now (world_of c.args.engine.now.world) f call.to.0 call.object.0 (string_bytes call.method) (map number_of call.args.items) c.requires.able
    c.object_in-object.result.0 c.object_in-object.ensures (called_view c.in-Some.called) (rw c.as_str-name.ensures.value at c.in-Some.ensures.called) in
    rw c.as_slice-from.ensures.value (all_set f call.args.items _ (sym c.first_registers-registers.ensures) able)

pub returns : goal.returns
returns c =
    let f = first_frame c.args.engine.now in
    let call = c.args.call.now in
    let read = rw c.as_slice-from.ensures.value at (c.in_ok-copy_values.ensures f (sym c.first_registers-registers.ensures)) in
    is_due c.args.definition.now (world_of c.args.engine.now.world) f call.to.0 call.object.0 (string_bytes call.method) (map number_of call.args.items) c.requires.able
    c.object_in-object.result.0 c.object_in-object.ensures (called_view c.in-Some.called) (rw c.as_str-name.ensures.value at c.in-Some.ensures.called) _ read
