use Rattle.instance_tables.proofs.Exact.{let_go_exact}
use Rattle.instance_tables.proofs.laws.let_go_counts.Goals as goal

pub returns : goal.returns
returns c = let_go_exact
