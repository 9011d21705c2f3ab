use Rattle.std.proofs.Common.{◌∙◌, sym}
use Rattle.verified_limits.proofs.Busy.{all_within, one_busy_fails}
use Rattle.verified_limits.proofs.limits.are_channels_within.Goals as goal

pub returns-then-not-are_busy_within : goal.returns-then-not-are_busy_within
returns-then-not-are_busy_within c a =
    sym (one_busy_fails c.args.verified.now a c.args.most (sym (c.are_busy_within.ensures a) ∙ c.if-not-are_busy_within.true))

pub returns-then-idle_bound-most : goal.returns-then-idle_bound-most
returns-then-idle_bound-most c a =
    sym (all_within c.args.verified.now a c.args.most c.idle_bound.result (sym (c.are_busy_within.ensures a) ∙ c.if-not-are_busy_within.false)
    c.idle_bound.ensures c.if-idle_bound-most.true)
