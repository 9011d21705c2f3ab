use Rattle.ui_machine.specs.State.Objects.{Object}
use Rattle.instances.proofs.Living.{asked_there}
use Rattle.instances.proofs.heaps.Heap.place_of.Goals as goal

pub returns : goal.returns
returns g c = asked_there c.args.self.now.table.objects c.args.id.0 (λ (o : Object). o.place) c.place_of.result.0 c.place_of.ensures
