use Rattle.std.proofs.Common.{◌≡◌, ◌∙◌, ap, arith, length, sym}
use Rattle.verified_limits.proofs.Busy.{busy_end, busy_fails, busy_passes}
use Rattle.verified_limits.proofs.limits.are_busy_within.Goals as goal

pub loop-number-preserved : goal.loop-number-preserved
loop-number-preserved c a =
    busy_passes c.args.verified.now a c.args.most c.busy-busy.result.now c.loop-number.number _ c.bound_of.result c.busy-busy.ensures
    c.channel.ensures c.bound_of.ensures (omega (arith, c.if-bound_of-most.false)) (c.loop-number.invariant a)

pub returns-then-bound_of-most : goal.returns-then-bound_of-most
returns-then-bound_of-most c a =
    sym (busy_fails c.args.verified.now a c.args.most c.busy-busy.result.now c.loop-number.number _ c.bound_of.result c.busy-busy.ensures
    c.channel.ensures c.bound_of.ensures c.if-bound_of-most.true)

pub returns : goal.returns
returns c a =
    sym (busy_end c.args.verified.now a c.args.most c.busy-busy.result.now c.loop-number.number c.busy-busy.ensures
    (omega (arith, c.loop-number-test.false)) (c.loop-number.invariant a))
