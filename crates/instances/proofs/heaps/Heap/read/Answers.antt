use Rattle.instances.proofs.Living.{reads_there}
use Rattle.instances.proofs.heaps.Heap.read.Goals as goal

pub read-requires : goal.read-requires
read-requires g c = record { slot = reads_there c.args.self.now.table.objects c.args.id.0 c.args.slot c.requires }
