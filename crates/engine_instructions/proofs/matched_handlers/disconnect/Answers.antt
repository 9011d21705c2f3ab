use Rattle.std.proofs.Common.{refl}
use Rattle.engine_instructions.proofs.Connections.{disconnect_leaves, keeps_disconnected}
use Rattle.engine_instructions.proofs.matched_handlers.disconnect.Goals as goal

pub returns-clause-world : goal.returns-clause-world
returns-clause-world c = rw c.disconnect_matched.ensures.left refl

pub returns-clause-agenda : goal.returns-clause-agenda
returns-clause-agenda c =
    disconnect_leaves c.args.definition.now c.args.engine.now c.disconnect_matched.new.self c.args.matched.object.0 c.args.matched.program c.disconnect_matched.ensures.left c.last-last.ensures.rises

pub returns-clause-counted : goal.returns-clause-counted
returns-clause-counted c =
    keeps_disconnected c.args.definition.now c.args.engine.now c.disconnect_matched.new.self c.args.matched.object.0 c.args.matched.program c.disconnect_matched.ensures.left c.last-last.ensures.rises
