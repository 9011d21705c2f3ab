use Rattle.instance_tables.proofs.Created.{create_exact}
use Rattle.instance_tables.proofs.laws.create_counts.Goals as goal

pub returns : goal.returns
returns c = create_exact
