use Rattle.instance_tables.specs.Store.{id_of}
use Rattle.instance_tables.specs.View.{instances_at}
use Rattle.instance_tables.proofs.Found.{found_ready, noted_is}
use Rattle.instance_tables.proofs.Shown.{dead_unheld}
use Rattle.instance_tables.proofs.table.Table.next_unheld.Goals as goal

pub returns-clause-found : goal.returns-clause-found
returns-clause-found c =
    noted_is (instances_at c.self.inside.instances) _ c.self.inside.limit c.self.inside.floating.items _ c.self.invariant.0 c.self.view_is
    (id_of c.self.inside.unheld.lowest) c.self.invariant.1.lowest

pub returns-clause-dead : goal.returns-clause-dead
returns-clause-dead c o =
    dead_unheld (instances_at c.self.inside.instances) _ c.self.inside.limit c.self.inside.floating.items _ c.self.invariant.0 c.self.view_is o

pub returns-clause-live : goal.returns-clause-live
returns-clause-live c =
    (found_ready c.args.self.now c.self.inside.unheld.lowest
    (noted_is (instances_at c.self.inside.instances) _ c.self.inside.limit c.self.inside.floating.items _ c.self.invariant.0 c.self.view_is
    (id_of c.self.inside.unheld.lowest) c.self.invariant.1.lowest)).0

pub returns-clause-unheld : goal.returns-clause-unheld
returns-clause-unheld c =
    (found_ready c.args.self.now c.self.inside.unheld.lowest
    (noted_is (instances_at c.self.inside.instances) _ c.self.inside.limit c.self.inside.floating.items _ c.self.invariant.0 c.self.view_is
    (id_of c.self.inside.unheld.lowest) c.self.invariant.1.lowest)).1
