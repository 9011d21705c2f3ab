use Rattle.instance_tables.proofs.Created.{float_exact}
use Rattle.instance_tables.proofs.laws.float_counts.Goals as goal

pub returns : goal.returns
returns c = float_exact
