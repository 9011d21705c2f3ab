use Rattle.instance_tables.proofs.Held.{counted_finds}
use Rattle.instance_tables.proofs.laws.counts_find.Goals as goal

pub returns : goal.returns
returns c = counted_finds
