use Rattle.instance_tables.specs.Store.{id_of}
use Rattle.instance_tables.specs.View.{instances_at}
use Rattle.instance_tables.proofs.Kin.{gone_well}
use Rattle.instance_tables.proofs.Shown.{removed}
use Rattle.instance_tables.proofs.table.Table.take_out.Goals as goal

pub returns : goal.returns
returns c =
    removed _ _ _ c.self.inside.limit c.self.inside.floating.items _ c.self.invariant.0 c.self.view_is _ c.requires.live
    c.remove-gone.ensures.gone c.requires.unheld

pub invariant_of-self : goal.invariant_of-self
invariant_of-self c =
    gone_well (instances_at c.self.inside.instances) (instances_at c.remove-gone.new.self) _ _ c.self.inside.namers _
    c.remove-gone.ensures.gone c.self.invariant
    c.remove.new.self c.remove_gone.new.self c.remove.ensures c.remove_gone.ensures
