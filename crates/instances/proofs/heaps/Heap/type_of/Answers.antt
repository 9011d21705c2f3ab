use Rattle.ui_machine.specs.State.Objects.{Object}
use Rattle.instances.proofs.Living.{asked_there, slots_there}
use Rattle.instances.proofs.heaps.Heap.type_of.Goals as goal

pub returns-clause-class : goal.returns-clause-class
returns-clause-class g c = asked_there c.args.self.now.table.objects c.args.id.0 (λ (o : Object). o.class) c.class_of.result c.class_of.ensures

pub returns-clause-slots : goal.returns-clause-slots
returns-clause-slots g c =
    slots_there c.args.self.now.classes.types.now c.args.self.now.classes.specs.now c.args.self.now.table.objects c.args.id.0 c.class_of.result
    c.args.self.now.slotted (asked_there c.args.self.now.table.objects c.args.id.0 (λ (o : Object). o.class) c.class_of.result c.class_of.ensures)
