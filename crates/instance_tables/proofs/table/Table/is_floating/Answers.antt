use Rattle.std.proofs.Common.{List, nat_eq, ap, ◌∙◌}
use Rattle.std.specs.List.{list_any}
use Rattle.ui_machine.specs.declared.ids.ObjectId.{ObjectId}
use Rattle.instance_tables.specs.Store.{Store}
use Rattle.instance_tables.proofs.Without.{among_ids}
use Rattle.instance_tables.proofs.table.Table.is_floating.Goals as goal

pub returns : goal.returns
returns c =
    c.is_among.ensures ∙ ap (λ (is : List ObjectId). list_any (λ (i : ObjectId). nat_eq i.0 c.args.id.0) is) c.deref.ensures.value
    ∙ among_ids c.args.id.0 c.self.inside.floating.items
    ∙ ap (λ (s : Store). list_any (λ i. nat_eq i c.args.id.0) s.floating) c.self.view_is
