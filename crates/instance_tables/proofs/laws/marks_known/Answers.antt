use Rattle.instance_tables.proofs.Disposed.{known_by}
use Rattle.instance_tables.proofs.laws.marks_known.Goals as goal

pub returns : goal.returns
returns c = known_by
