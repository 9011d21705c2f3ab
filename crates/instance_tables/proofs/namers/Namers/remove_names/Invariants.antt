use Rattle.instance_tables.specs.Names.{StaysBeside}
use Rattle.instance_tables.proofs.namers.Namers.remove_names.Given as goal

abbrev pub invariant-slots : goal.invariant-slots
invariant-slots l = StaysBeside l.holder.0 l.fn.self l.self
