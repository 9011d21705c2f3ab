use Rattle.instances.proofs.Kept.{NoMore, apart_on, lent_on, fewer_follows, raising_keeps, slotted_on}
use Rattle.ui_machine.specs.Rules.NotifyQueue.{raised}
use Rattle.instances.proofs.Living.{raises}
use Rattle.instances.proofs.heaps.Heap.add.Goals as goal

pub invariant_of-self : goal.invariant_of-self
invariant_of-self g c =
    let fewer : NoMore c.args.self.now.table.objects c.add.new.self.objects = fewer_follows c.add.result c.args.self.now.table c.add.new.self c.args.id.0 (raised c.args.slot) (raising_keeps c.args.slot) c.add.ensures.changes c.add.ensures.refused in
    record {
      lent = lent_on _ _ c.args.self.now.table.objects c.add.new.self.objects fewer c.args.self.now.lent;
      apart = apart_on c.args.self.now.table.objects c.add.new.self.objects fewer c.args.self.now.apart;
      slotted = slotted_on _ _ c.args.self.now.table.objects c.add.new.self.objects fewer c.args.self.now.slotted;
    }

pub returns-clause-raises : goal.returns-clause-raises
returns-clause-raises g c = raises c.add.result c.args.id.0 c.args.slot c.args.self.now.table c.add.new.self c.add.ensures.changes c.add.ensures.beside
