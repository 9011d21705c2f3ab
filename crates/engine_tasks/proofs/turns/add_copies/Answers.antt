use Rattle.std.proofs.Common.{◌++◌, map}
use Rattle.g_values.specs.View.{value_view}
use Rattle.bytecode.specs.Computing.{registers_of}
use Rattle.engine_tasks.proofs.TurnTaking.{copies_end, copies_on, filled}
use Rattle.engine_tasks.proofs.turns.add_copies.Goals as goal

pub loop-value-preserved : goal.loop-value-preserved
loop-value-preserved c =
    copies_on c.args.values.now c.loop-value.value-index (registers_of c.args.registers.now.items ++ filled (map value_view c.args.values.now))
    c.loop-value.registers.items c.push.new.self.items c.value-item.result c.in_ok-copied.field-0 c.loop-value-test.true c.value-item.is c.in_ok-copied.ensures.value c.in_ok-push.ensures.items c.loop-value.invariant

pub returns : goal.returns
returns c =
    copies_end c.args.values.now c.loop-value.value-index (registers_of c.args.registers.now.items ++ filled (map value_view c.args.values.now)) c.loop-value.registers.items c.loop-value-test.false c.loop-value.invariant
