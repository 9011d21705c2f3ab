use Rattle.instance_tables.proofs.Disposed.{dispose_exact}
use Rattle.instance_tables.proofs.laws.dispose_counts.Goals as goal

pub returns : goal.returns
returns c = dispose_exact
