use Rattle.instances.proofs.Kept.{NoMore, apart_on, lent_on, fewer_changed, thawing_keeps, slotted_on}
use Rattle.std.proofs.Common.{reverse}
use Rattle.ui_machine.specs.Rules.NotifyQueue.{frozen_less}
use Rattle.instances.proofs.Living.{thaws_there}
use Rattle.instances.proofs.heaps.Heap.thaw.Goals as goal

pub thaw-requires : goal.thaw-requires
thaw-requires g c = record { able = thaws_there c.args.self.now.table.objects c.args.id.0 c.requires }

pub invariant_of-self : goal.invariant_of-self
invariant_of-self g c =
    let fewer : NoMore c.args.self.now.table.objects c.thaw.new.self.objects = fewer_changed c.args.self.now.table.objects c.thaw.new.self.objects c.args.id.0 frozen_less (reverse c.thaw.result.items) thawing_keeps c.thaw.ensures.changes in
    record {
      lent = lent_on _ _ c.args.self.now.table.objects c.thaw.new.self.objects fewer c.args.self.now.lent;
      apart = apart_on c.args.self.now.table.objects c.thaw.new.self.objects fewer c.args.self.now.apart;
      slotted = slotted_on _ _ c.args.self.now.table.objects c.thaw.new.self.objects fewer c.args.self.now.slotted;
    }
