use Rattle.instance_tables.proofs.Held.{finalise_moves}
use Rattle.instance_tables.proofs.laws.finalising_moves.Goals as goal

pub returns : goal.returns
returns c = finalise_moves
