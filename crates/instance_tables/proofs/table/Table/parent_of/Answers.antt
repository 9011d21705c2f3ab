use Rattle.std.proofs.Common.{sym, ap, ◌∙◌}
use Rattle.std.specs.Option.{option_copied}
use Rattle.instance_tables.specs.View.{object_in, instances_at}
use Rattle.instance_tables.specs.Family.{parent_in}
use Rattle.instance_tables.proofs.Shown.{found_in}
use Rattle.instance_tables.proofs.Kin.{parent_made}
use Rattle.instance_tables.proofs.table.Table.parent_of.Goals as goal

pub returns-in_default-clause-parent : goal.returns-in_default-clause-parent
returns-in_default-clause-parent c =
    let none = sym c.get.ensures.value ∙ ap option_copied c.in_default.is in
    ap parent_in (sym (found_in _ _ c.self.inside.limit c.self.inside.floating.items _ c.self.invariant.0 c.self.view_is _ ∙ ap object_in none))

pub returns-clause-parent : goal.returns-clause-parent
returns-clause-parent c =
    let here = sym c.get.ensures.value ∙ ap option_copied c.in-Some.is in
    c.parent.ensures
    ∙ ap parent_in (sym (found_in _ _ c.self.inside.limit c.self.inside.floating.items _ c.self.invariant.0 c.self.view_is _ ∙ ap object_in here))

pub returns-in_default-clause-given : goal.returns-in_default-clause-given
returns-in_default-clause-given c =
    parent_made (instances_at c.self.inside.instances) _ c.self.inside.limit c.self.inside.floating.items _ c.self.invariant.0 c.self.view_is c.self.invariant.2 _

pub returns-clause-given : goal.returns-clause-given
returns-clause-given c =
    parent_made (instances_at c.self.inside.instances) _ c.self.inside.limit c.self.inside.floating.items _ c.self.invariant.0 c.self.view_is c.self.invariant.2 _
