use Rattle.std.proofs.Common.{sym, ap, ◌∙◌}
use Rattle.std.specs.Option.{option_copied}
use Rattle.instance_tables.specs.View.{object_in}
use Rattle.instance_tables.specs.Weak.{is_strong}
use Rattle.instance_tables.proofs.Shown.{found_in}
use Rattle.instance_tables.proofs.Written.{strong_none, strong_here}
use Rattle.instance_tables.proofs.table.Table.is_strong.Goals as goal

pub returns-in_default : goal.returns-in_default
returns-in_default c =
    strong_none c.args.weak.now c.args.slot _
    (found_in _ _ c.self.inside.limit c.self.inside.floating.items _ c.self.invariant.0 c.self.view_is _ ∙ ap object_in (sym c.get.ensures.value ∙ ap option_copied c.in_default.is))

pub returns : goal.returns
returns c =
    c.is_strong.ensures ∙ ap (λ k. is_strong c.args.weak.now k c.args.slot) c.class.ensures
    ∙ strong_here c.args.weak.now c.args.slot _ c.in-Some.instance.now.object
    (found_in _ _ c.self.inside.limit c.self.inside.floating.items _ c.self.invariant.0 c.self.view_is _ ∙ ap object_in (sym c.get.ensures.value ∙ ap option_copied c.in-Some.is))
