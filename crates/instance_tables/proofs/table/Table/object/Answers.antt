use Rattle.std.proofs.Common.{sym, ap, ◌∙◌}
use Rattle.std.specs.Option.{option_copied}
use Rattle.instance_tables.specs.View.{object_in}
use Rattle.instance_tables.proofs.Shown.{found_in}
use Rattle.instance_tables.proofs.table.Table.object.Goals as goal

pub returns-in_default : goal.returns-in_default
returns-in_default c =
    let none = sym c.get.ensures.value ∙ ap option_copied c.in_default.is in
    sym (found_in _ _ c.self.inside.limit c.self.inside.floating.items _ c.self.invariant.0 c.self.view_is _ ∙ ap object_in none)

pub returns : goal.returns
returns c =
    let here = sym c.get.ensures.value ∙ ap option_copied c.in-Some.is in
    sym (found_in _ _ c.self.inside.limit c.self.inside.floating.items _ c.self.invariant.0 c.self.view_is _ ∙ ap object_in here)
