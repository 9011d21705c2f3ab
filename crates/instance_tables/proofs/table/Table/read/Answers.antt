use Rattle.std.proofs.Common.{IsOk, sym, ap, subst, ◌∙◌}
use Rattle.std.specs.Option.{option_copied}
use Rattle.ui_machine.specs.Definition.Values.{Value}
use Rattle.ui_machine.specs.Outcome.{Answer}
use Rattle.ui_machine.specs.State.Objects.{value_at}
use Rattle.instance_tables.proofs.Shown.{never_asked, present_asked}
use Rattle.instance_tables.proofs.Written.{has_slot}
use Rattle.instance_tables.proofs.table.Table.read.Goals as goal

pub unreachable-requires : goal.unreachable-requires
unreachable-requires c =
    never_asked _ _ c.self.inside.limit c.self.inside.floating.items _ c.self.invariant.0 c.self.view_is _ (value_at c.args.slot)
    (sym c.get.ensures.value ∙ ap option_copied c.in_default.is) c.requires.slot

pub read-requires : goal.read-requires
read-requires c = record {
  slot = has_slot c.args.slot c.in-Some.instance.now.object.values
      (subst (λ (a : Answer Value). IsOk a)
      (present_asked _ _ c.self.inside.limit c.self.inside.floating.items _ c.self.invariant.0 c.self.view_is _ _ (value_at c.args.slot)
      (sym c.get.ensures.value ∙ ap option_copied c.in-Some.is)) c.requires.slot);
}

pub returns : goal.returns
returns c =
    present_asked _ _ c.self.inside.limit c.self.inside.floating.items _ c.self.invariant.0 c.self.view_is _ _ (value_at c.args.slot)
    (sym c.get.ensures.value ∙ ap option_copied c.in-Some.is)
    ∙ c.read.ensures
