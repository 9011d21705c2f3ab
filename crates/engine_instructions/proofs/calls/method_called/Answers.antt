use Rattle.std.proofs.Common.{None, Some, sym}
use Rattle.engine_world.specs.View.{world_of}
use Rattle.peer_shapes.specs.MethodViews as methods
use Rattle.engine_instructions.proofs.PeerCalls.{by_number, no_number, no_peer, shaped_so}
use Rattle.engine_instructions.proofs.calls.method_called.Goals as goal

pub returns-in_default-clause-called : goal.returns-in_default-clause-called
returns-in_default-clause-called c = no_peer (world_of c.args.engine.now.world) c.args.object.0 c.args.name.now c.requires.live c.in_default.ensures

pub returns-in_default-method_number-clause-called : goal.returns-in_default-method_number-clause-called
returns-in_default-method_number-clause-called c =
    let d = c.args.definition.now in
    let w = world_of c.args.engine.now.world in
    no_number w c.args.object.0 c.args.name.now c.requires.live c.in-Some.peer c.in-Some.ensures c.method_number.result
    (shaped_so d w c.args.object.0 c.args.name.now c.requires.live c.requires.meanings c.in-Some.peer c.in-Some.ensures c.method_number.result c.method_number.ensures)
    (sym c.in_default-method_number.is)

pub returns-in_default-method-clause-called : goal.returns-in_default-method-clause-called
returns-in_default-method-clause-called c =
    let d = c.args.definition.now in
    let w = world_of c.args.engine.now.world in
    by_number w c.args.object.0 c.args.name.now c.requires.live c.in-Some.peer c.in-Some.ensures c.method_number.result
    (shaped_so d w c.args.object.0 c.args.name.now c.requires.live c.requires.meanings c.in-Some.peer c.in-Some.ensures c.method_number.result c.method_number.ensures)
    c.in-Some-method_number.number (sym c.in-Some-method_number.is) None c.in_default-method.ensures.found

pub returns-clause-called : goal.returns-clause-called
returns-clause-called c =
    let d = c.args.definition.now in
    let w = world_of c.args.engine.now.world in
    by_number w c.args.object.0 c.args.name.now c.requires.live c.in-Some.peer c.in-Some.ensures c.method_number.result
    (shaped_so d w c.args.object.0 c.args.name.now c.requires.live c.requires.meanings c.in-Some.peer c.in-Some.ensures c.method_number.result c.method_number.ensures)
    c.in-Some-method_number.number (sym c.in-Some-method_number.is) (Some (methods.lent_view c.in-Some-method.method)) c.in-Some-method.ensures.found
