use Rattle.std.proofs.Common.{arith, sym}
use Rattle.verified_limits.proofs.Bounded.{place_ends, place_fails, place_passes}
use Rattle.verified_limits.proofs.limits.is_place_within.Goals as goal

pub loop-number-preserved : goal.loop-number-preserved
loop-number-preserved c place a within are =
    place_passes c.args.verified.now a c.args.most c.args.channels.now place c.loop-number.number c.channel_at-channel.result c.bound_of.result within are
    c.channel_at-channel.ensures c.bound_of.ensures (omega (arith, c.if-bound_of-most.false)) (c.loop-number.invariant place a within are)

pub returns-then-bound_of-most : goal.returns-then-bound_of-most
returns-then-bound_of-most c place a within are =
    sym (place_fails c.args.verified.now a c.args.most c.args.channels.now place c.loop-number.number c.channel_at-channel.result c.bound_of.result within are
    c.channel_at-channel.ensures c.bound_of.ensures c.if-bound_of-most.true)

pub returns : goal.returns
returns c place a within are =
    sym (place_ends c.args.verified.now a c.args.most c.args.channels.now place c.loop-number.number are (omega (arith, c.loop-number-test.false)) (c.loop-number.invariant place a within are))
