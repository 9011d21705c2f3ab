use Rattle.verified_limits.proofs.Bounded.{none_counts_more, one_is_greater}
use Rattle.verified_limits.proofs.laws.within.Goals as goal

pub returns : goal.returns
returns c = record { all = none_counts_more; some = one_is_greater }
