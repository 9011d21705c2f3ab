use Rattle.instance_tables.proofs.Created.{made_holds}
use Rattle.instance_tables.proofs.laws.made_holds_nothing.Goals as goal

pub returns : goal.returns
returns c = made_holds
