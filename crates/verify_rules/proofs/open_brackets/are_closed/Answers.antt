use Rattle.std.proofs.Common.{sym}
use Rattle.verify_rules.proofs.OpenBrackets.{closed_all, closed_on, none_open, one_open}
use Rattle.verify_rules.proofs.open_brackets.are_closed.Goals as goal

pub returns-then-counts-number-gt0 : goal.returns-then-counts-number-gt0
returns-then-counts-number-gt0 c registers counted =
    sym (one_open c.args.counts.now c.loop-number.number registers counted c.loop-number-test.true c.if-counts-number-gt0.true)

pub loop-number-preserved : goal.loop-number-preserved
loop-number-preserved c =
    closed_on c.args.counts.now c.loop-number.number c.loop-number.invariant c.loop-number-test.true c.if-counts-number-gt0.false

pub returns : goal.returns
returns c registers counted =
    sym (none_open c.args.counts.now registers counted (closed_all c.args.counts.now c.loop-number.number c.loop-number.invariant c.loop-number-test.false))
