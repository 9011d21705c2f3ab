use Rattle.instances.proofs.Kept.{NoMore, apart_on, lent_on, fewer_orphaned, slotted_on}
use Rattle.instances.proofs.heaps.Heap.orphan.Goals as goal

pub invariant_of-self : goal.invariant_of-self
invariant_of-self g c =
    let fewer : NoMore c.args.self.now.table.objects c.orphan.new.self.objects = fewer_orphaned c.args.child.0 c.args.self.now.table c.orphan.new.self c.orphan.ensures.alone c.orphan.ensures.leaves in
    record {
      lent = lent_on _ _ c.args.self.now.table.objects c.orphan.new.self.objects fewer c.args.self.now.lent;
      apart = apart_on c.args.self.now.table.objects c.orphan.new.self.objects fewer c.args.self.now.apart;
      slotted = slotted_on _ _ c.args.self.now.table.objects c.orphan.new.self.objects fewer c.args.self.now.slotted;
    }
