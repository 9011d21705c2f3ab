use Rattle.std.proofs.Common.{ap, length, arith}
use Rattle.ui_machine.specs.Definition.Lookups.{class_of}
use Rattle.engine_links.proofs.Handling.{handled_more}
use Rattle.engine_links.proofs.class_handlers.handlers_of.Goals as goal

pub loop-number-preserved : goal.loop-number-preserved
loop-number-preserved c =
    let d = c.args.definition.now in
    let class = c.args.class in
    handled_more d class (class_of d class).signals c.loop-number.number c.loop-number.row.items c.push.new.self.items c.class_handler.result
    (omega (arith, c.loop-number-test.true, c.signal_count-count.ensures.count)) c.class_handler.ensures c.in_ok-push.ensures.items c.loop-number.invariant
