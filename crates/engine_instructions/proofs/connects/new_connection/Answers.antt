use Rattle.bytecode.specs.View.{connect_view}
use Rattle.engine_world.specs.View.{world_of}
use Rattle.engine_instructions.proofs.ConnectSteps.{connection_so, data_able, detail_able, program_able, signal_able}
use Rattle.engine_world.specs.FirstPrograms.{first_frame}
use Rattle.engine_instructions.proofs.connects.new_connection.Goals as goal

pub signal_in-signal-requires : goal.signal_in-signal-requires
signal_in-signal-requires c =
    let d = c.args.definition.now in
    let w = world_of c.args.engine.now.world in
    let f = first_frame c.args.engine.now in
    let k = connect_view c.args.connect.now in
    record { able = rw c.as_str.ensures.value (signal_able d w f c.args.object.0 k c.requires.able c.object_in-object.result.0 c.object_in-object.ensures); link = rw c.as_str.ensures.value c.requires.link.0.0 }

pub detail_in-requires : goal.detail_in-requires
detail_in-requires c =
    let d = c.args.definition.now in
    let w = world_of c.args.engine.now.world in
    let f = first_frame c.args.engine.now in
    let k = connect_view c.args.connect.now in
    let named = rw c.as_str.ensures.value at c.signal_in-signal.ensures in
    let able = detail_able d w f c.args.object.0 k c.requires.able c.object_in-object.result.0 c.object_in-object.ensures c.signal_in-signal.result named in
    record { able = rw c.as_text.ensures able; link = rw c.as_text.ensures c.requires.link.0.1 }

pub program_named-program-requires : goal.program_named-program-requires
program_named-program-requires c =
    let d = c.args.definition.now in
    let w = world_of c.args.engine.now.world in
    let f = first_frame c.args.engine.now in
    let k = connect_view c.args.connect.now in
    let named = rw c.as_str.ensures.value at c.signal_in-signal.ensures in
    let told = rw c.as_text.ensures at c.in_ok-detail.ensures in
    record { able = rw c.as_str-2.ensures.value (program_able d w f c.args.object.0 k c.requires.able c.object_in-object.result.0 c.object_in-object.ensures c.signal_in-signal.result named _ told); link = rw c.as_str-2.ensures.value c.requires.link.1 }

pub data_in-data-requires : goal.data_in-data-requires
data_in-data-requires c =
    let d = c.args.definition.now in
    let w = world_of c.args.engine.now.world in
    let f = first_frame c.args.engine.now in
    let k = connect_view c.args.connect.now in
    let named = rw c.as_str.ensures.value at c.signal_in-signal.ensures in
    let told = rw c.as_text.ensures at c.in_ok-detail.ensures in
    let is = rw c.as_str-2.ensures.value at c.program_named-program.ensures in
    record { first = c.requires.first; able = data_able d w f c.args.object.0 k c.requires.able c.object_in-object.result.0 c.object_in-object.ensures c.signal_in-signal.result named _ told c.program_named-program.result is }

pub returns-clause-connection : goal.returns-clause-connection
returns-clause-connection c =
    let d = c.args.definition.now in
    let w = world_of c.args.engine.now.world in
    let f = first_frame c.args.engine.now in
    let k = connect_view c.args.connect.now in
    let named = rw c.as_str.ensures.value at c.signal_in-signal.ensures in
    let told = rw c.as_text.ensures at c.in_ok-detail.ensures in
    let is = rw c.as_str-2.ensures.value at c.program_named-program.ensures in
    connection_so d w f c.args.object.0 k c.requires.able c.object_in-object.result.0 c.object_in-object.ensures c.signal_in-signal.result named _ told c.program_named-program.result is _ c.data_in-data.ensures
