use Rattle.std.proofs.Common.{◌∙◌}
use Rattle.law_typing.specs.Graph.{graph}
use Rattle.verified_limits.proofs.Bounded.{sources_compared}
use Rattle.verified_limits.proofs.limits.are_sources_within.Goals as goal

pub returns : goal.returns
returns c a = c.are_bounds_within.ensures ∙ sources_compared c.args.verified.now a c.args.most c.sources.result.now (graph c.args.verified.now).sources (c.sources.ensures.sources a)
