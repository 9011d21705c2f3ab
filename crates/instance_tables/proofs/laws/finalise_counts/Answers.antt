use Rattle.instance_tables.proofs.Disposed.{finalise_exact}
use Rattle.instance_tables.proofs.laws.finalise_counts.Goals as goal

pub returns : goal.returns
returns c = finalise_exact
