use Rattle.instance_tables.proofs.Held.{writes_move}
use Rattle.instance_tables.proofs.laws.writing_moves.Goals as goal

pub returns : goal.returns
returns c = writes_move
