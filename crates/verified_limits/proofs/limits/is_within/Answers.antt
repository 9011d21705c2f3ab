use Rattle.std.proofs.Common.{◌∙◌, ap, sym}
use Rattle.verified_limits.proofs.Bounded.{build_fails, parts_are, plain_fails, sources_fail}
use Rattle.verified_limits.proofs.limits.is_within.Goals as goal

pub returns-then-bound-most : goal.returns-then-bound-most
returns-then-bound-most c a = sym (build_fails c.args.verified.now a c.args.most c.bound.result (c.bound.ensures a) c.if-bound-most.true)

pub returns-then-bound-most-2 : goal.returns-then-bound-most-2
returns-then-bound-most-2 c a = sym (plain_fails c.args.verified.now a c.args.most c.bound-2.result (c.bound-2.ensures a) c.if-bound-most-2.true)

pub returns-then-not-are_sources_within : goal.returns-then-not-are_sources_within
returns-then-not-are_sources_within c a =
    sym (sources_fail c.args.verified.now a c.args.most (sym (c.are_sources_within.ensures a) ∙ c.if-not-are_sources_within.true))

pub returns : goal.returns
returns c a =
    parts_are c.args.verified.now a c.args.most c.bound.result c.bound-2.result c.in_ok-within.within (c.bound.ensures a) c.if-bound-most.false (c.bound-2.ensures a) c.if-bound-most-2.false
    (sym (c.are_sources_within.ensures a) ∙ c.if-not-are_sources_within.false) (c.in_ok-within.ensures a)
