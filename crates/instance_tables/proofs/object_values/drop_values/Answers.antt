use Rattle.std.proofs.Common.{arith, ◌∙◌, false}
use Rattle.g_values.specs.View.{value_view}
use Rattle.instance_tables.specs.Weak.{dropped_value}
use Rattle.instance_tables.proofs.Marks.{masked_next, masked_all}
use Rattle.instance_tables.proofs.object_values.drop_values.Goals as goal

pub loop-slot-preserved : goal.loop-slot-preserved
loop-slot-preserved c =
    masked_next dropped_value value_view c.args.weak.now c.args.values.now c.loop-slot.values c.loop-slot.slot _ false c.index-values-slot.result c.drop_value.new.value (omega arith) (omega (arith, c.min-count.ensures, c.loop-slot-test.true)) (omega (arith, c.min-count.ensures, c.loop-slot-test.true)) c.loop-slot.invariant c.drop_value.ensures

pub returns : goal.returns
returns c =
    c.loop-slot.invariant
    ∙ masked_all dropped_value value_view c.args.weak.now c.args.values.now c.loop-slot.slot c.min-count.result c.loop-slot-test.false c.min-count.ensures
