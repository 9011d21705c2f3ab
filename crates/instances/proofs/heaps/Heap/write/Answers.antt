use Rattle.instances.proofs.Kept.{NoMore, apart_on, lent_on, fewer_changed, writing_keeps, slotted_on}
use Rattle.g_values.specs.View.{value_view}
use Rattle.ui_machine.specs.State.Objects.{with_value}
use Rattle.instances.proofs.Living.{reads_there}
use Rattle.instances.proofs.Written.{writes}
use Rattle.instances.proofs.heaps.Heap.write.Goals as goal

pub write-requires : goal.write-requires
write-requires g c = record { slot = reads_there c.args.self.now.table.objects c.args.id.0 c.args.slot c.requires }

pub invariant_of-self : goal.invariant_of-self
invariant_of-self g c =
    let fewer : NoMore c.args.self.now.table.objects c.write.new.self.objects = fewer_changed c.args.self.now.table.objects c.write.new.self.objects c.args.id.0 (with_value c.args.slot (value_view c.args.value)) (value_view c.write.result) (writing_keeps c.args.slot (value_view c.args.value)) c.write.ensures.changes in
    record {
      lent = lent_on _ _ c.args.self.now.table.objects c.write.new.self.objects fewer c.args.self.now.lent;
      apart = apart_on c.args.self.now.table.objects c.write.new.self.objects fewer c.args.self.now.apart;
      slotted = slotted_on _ _ c.args.self.now.table.objects c.write.new.self.objects fewer c.args.self.now.slotted;
    }

pub returns-clause-writes : goal.returns-clause-writes
returns-clause-writes g c =
    writes c.args.self.now.classes.weak.now c.args.id.0 c.args.slot (value_view c.write.result) (value_view c.args.value) c.args.self.now.table c.write.new.self
    c.write.ensures.changes c.write.ensures.beside c.write.ensures.moves c.write.ensures.lets_go
