use Rattle.instance_tables.proofs.Created.{none_exact}
use Rattle.instance_tables.proofs.laws.none_counts.Goals as goal

pub returns : goal.returns
returns c = none_exact
