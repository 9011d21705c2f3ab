use Rattle.instance_tables.proofs.Held.{dispose_moves}
use Rattle.instance_tables.proofs.laws.disposing_moves.Goals as goal

pub returns : goal.returns
returns c = dispose_moves
