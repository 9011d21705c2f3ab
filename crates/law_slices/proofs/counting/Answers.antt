use Rattle.law_slices.proofs.QuietRunProofs.{counts_rise_by_one, quiet_runs_bound}
use Rattle.law_slices.proofs.counting.Goals as goal

pub returns : goal.returns
returns c = record { one = counts_rise_by_one; bound = quiet_runs_bound }
