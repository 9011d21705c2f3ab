use Rattle.std.proofs.Common.{length}
use Rattle.native_peers.specs.Pool.{entries}
use Rattle.instances.proofs.Kept.{NoMore, apart_on, lent_among, lent_on, fewer_disposing, slotted_on}
use Rattle.instances.proofs.heaps.Heap.dispose.Goals as goal

pub invariant_of-self : goal.invariant_of-self
invariant_of-self g c =
    let fewer : NoMore c.args.self.now.table.objects c.dispose.new.self.objects = fewer_disposing c.args.self.now.classes.weak.now c.args.id.0 c.args.self.now.table c.dispose.new.self c.dispose.ensures.disposes in
    record {
      lent = lent_among c.args.self.now.last_lent (length (entries c.args.self.now.pool)) (length (entries c.close_peer.new.pool)) c.dispose.new.self.objects c.close_peer.ensures.as_many
          (lent_on _ _ c.args.self.now.table.objects c.dispose.new.self.objects fewer c.args.self.now.lent);
      apart = apart_on c.args.self.now.table.objects c.dispose.new.self.objects fewer c.args.self.now.apart;
      slotted = slotted_on _ _ c.args.self.now.table.objects c.dispose.new.self.objects fewer c.args.self.now.slotted;
    }
