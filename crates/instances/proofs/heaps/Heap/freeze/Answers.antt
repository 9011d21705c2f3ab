use Rattle.instances.proofs.Kept.{NoMore, apart_on, lent_on, fewer_changed, freezing_keeps, slotted_on}
use Rattle.ui_machine.specs.Rules.NotifyQueue.{frozen_more}
use Rattle.instances.proofs.Living.{freezes_there}
use Rattle.instances.proofs.heaps.Heap.freeze.Goals as goal

pub freeze-requires : goal.freeze-requires
freeze-requires g c = record { able = freezes_there c.args.self.now.table.objects c.args.id.0 c.requires.live c.requires.room }

pub invariant_of-self : goal.invariant_of-self
invariant_of-self g c =
    let fewer : NoMore c.args.self.now.table.objects c.freeze.new.self.objects = fewer_changed c.args.self.now.table.objects c.freeze.new.self.objects c.args.id.0 frozen_more tt freezing_keeps c.freeze.ensures.changes in
    record {
      lent = lent_on _ _ c.args.self.now.table.objects c.freeze.new.self.objects fewer c.args.self.now.lent;
      apart = apart_on c.args.self.now.table.objects c.freeze.new.self.objects fewer c.args.self.now.apart;
      slotted = slotted_on _ _ c.args.self.now.table.objects c.freeze.new.self.objects fewer c.args.self.now.slotted;
    }
