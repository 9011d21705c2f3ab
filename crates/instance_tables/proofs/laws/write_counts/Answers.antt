use Rattle.instance_tables.proofs.WriteExact.{write_exact}
use Rattle.instance_tables.proofs.laws.write_counts.Goals as goal

pub returns : goal.returns
returns c = write_exact
