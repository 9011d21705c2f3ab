use Rattle.std.proofs.Common.{rules}
use Rattle.instance_tables.proofs.Noted.{known_next}
use Rattle.instance_tables.proofs.unheld.Unheld.remove.Goals as goal

pub returns-then-eq : goal.returns-then-eq
returns-then-eq c held knows change =
    known_next c.args.instances.now held c.args.self.now c.take_next-self.new.self c.args.id.0 c.take_next-self.result (search rules) knows change
    c.take_next-self.ensures
