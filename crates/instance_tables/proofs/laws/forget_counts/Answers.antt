use Rattle.instance_tables.proofs.Exact.{forget_exact}
use Rattle.instance_tables.proofs.laws.forget_counts.Goals as goal

pub returns : goal.returns
returns c = forget_exact
