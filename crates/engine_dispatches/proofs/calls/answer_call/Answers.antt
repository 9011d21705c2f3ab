use Rattle.std.proofs.Common.{sym}
use Rattle.engine_world.proofs.Counts.{config_same}
use Rattle.engine_dispatches.proofs.Points.{follows_to}
use Rattle.engine_dispatches.proofs.calls.answer_call.Goals as goal

pub returns-clause-follows : goal.returns-clause-follows
returns-clause-follows g c =
    let d = c.args.definition.now in
    follows_to d (sym (config_same d c.ask_for.new.engine c.let_go_any.new.table c.let_go_any.ensures.only)) c.in-Ok.ensures.follows
