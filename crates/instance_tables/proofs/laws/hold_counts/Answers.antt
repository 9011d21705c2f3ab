use Rattle.instance_tables.proofs.Exact.{hold_exact}
use Rattle.instance_tables.proofs.laws.hold_counts.Goals as goal

pub returns : goal.returns
returns c = hold_exact
