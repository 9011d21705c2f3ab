use Rattle.instance_tables.proofs.Exact.{exact_finds}
use Rattle.instance_tables.proofs.laws.counted_finds.Goals as goal

pub returns : goal.returns
returns c = exact_finds
