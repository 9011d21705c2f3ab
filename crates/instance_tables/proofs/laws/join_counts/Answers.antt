use Rattle.instance_tables.proofs.Exact.{join_exact}
use Rattle.instance_tables.proofs.laws.join_counts.Goals as goal

pub returns : goal.returns
returns c = join_exact
