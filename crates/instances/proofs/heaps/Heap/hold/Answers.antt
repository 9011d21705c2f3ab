use Rattle.instances.proofs.Living.{held_more}
use Rattle.instances.proofs.heaps.Heap.hold.Goals as goal

pub returns-clause-held : goal.returns-clause-held
returns-clause-held g c = held_more c.args.self.now.table c.hold.new.self c.args.id.0 c.requires.live c.hold.ensures
