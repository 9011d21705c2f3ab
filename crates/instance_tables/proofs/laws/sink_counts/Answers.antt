use Rattle.instance_tables.proofs.Exact.{sink_exact}
use Rattle.instance_tables.proofs.laws.sink_counts.Goals as goal

pub returns : goal.returns
returns c = sink_exact
