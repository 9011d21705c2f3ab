use Rattle.std.proofs.Common.{ℕ, Ok, sym, ap, ◌∙◌}
use Rattle.std.specs.Option.{option_copied}
use Rattle.instance_tables.proofs.Shown.{not_absent, present_asked}
use Rattle.instance_tables.proofs.table.Table.class_of.Goals as goal

pub unreachable-requires : goal.unreachable-requires
unreachable-requires c =
    not_absent _ _ c.self.inside.limit c.self.inside.floating.items _ c.self.invariant.0 c.self.view_is _
    (sym c.get.ensures.value ∙ ap option_copied c.in_default.is) c.requires.live

pub returns : goal.returns
returns c =
    present_asked _ _ c.self.inside.limit c.self.inside.floating.items _ c.self.invariant.0 c.self.view_is _ _ _
    (sym c.get.ensures.value ∙ ap option_copied c.in-Some.is)
    ∙ ap (λ (t : ℕ). Ok t) (sym c.class.ensures)
