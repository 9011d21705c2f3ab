use Rattle.instance_tables.proofs.Exact.{held_alive}
use Rattle.instance_tables.proofs.laws.held_lives.Goals as goal

pub returns : goal.returns
returns c = held_alive
