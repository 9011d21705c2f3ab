use Rattle.instance_tables.proofs.Exact.{leave_exact}
use Rattle.instance_tables.proofs.laws.leave_counts.Goals as goal

pub returns : goal.returns
returns c = leave_exact
