use Rattle.std.proofs.Common.{sym, true, ◌≡◌, ◌+◌, nat_lt, ◌∙◌}
use Rattle.ui_machine.specs.Rules.Connections.{greatest_handler}
use Rattle.ui_machine.specs.Rules.Build.{to_connect}
use Rattle.signal_core.specs.Connected.{connection_of, has_room}
use Rattle.engine_world.specs.TaskView.{agenda_of}
use Rattle.engine_world.specs.View.{world_of}
use Rattle.engine_world.proofs.HandlerAdded.{finds_none, finds_room, has_it, same_room}
use Rattle.engine_world.proofs.connections.connect_handler.Goals as goal

pub returns-in-Ok-clause-outcome : goal.returns-in-Ok-clause-outcome
returns-in-Ok-clause-outcome c =
    let d = c.args.definition.now in
    let e = c.args.engine.now in
    let n = to_connect (agenda_of d e) in
    let meant = connection_of c.args.connection in
    let number : nat_lt (e.world.handlers.last + n) greatest_handler ≡ true = sym c.if-not-has_handler_number.ensures in
    finds_room d (world_of e.world) n meant (sym c.is_too_late.ensures ∙ c.if-is_too_late.false)
    (same_room d e n meant c.requires.connects c.requires.by_code number
    ∙ has_it (has_room e.world.handlers meant) c.add_handler.result _ c.add_handler.ensures.limit c.in-Ok.field-0 c.in-Ok.is)

pub returns-in-Err-HandlerLimit-clause-outcome : goal.returns-in-Err-HandlerLimit-clause-outcome
returns-in-Err-HandlerLimit-clause-outcome c =
    let d = c.args.definition.now in
    let e = c.args.engine.now in
    let n = to_connect (agenda_of d e) in
    let meant = connection_of c.args.connection in
    let number : nat_lt (e.world.handlers.last + n) greatest_handler ≡ true = sym c.if-not-has_handler_number.ensures in
    let full = c.add_handler.ensures.limit.0 (cc (c.in-Err-HandlerLimit.is, c.in-Err-HandlerLimit.field-0-is)) in
    finds_none d (world_of e.world) n meant (sym c.is_too_late.ensures ∙ c.if-is_too_late.false)
    (same_room d e n meant c.requires.connects c.requires.by_code number ∙ full)
