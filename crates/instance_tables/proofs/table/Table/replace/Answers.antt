use Rattle.std.proofs.Common.{IsOk, inl, inr, refl, sym, ap, subst, ◌∙◌}
use Rattle.g_values.specs.View.{value_view}
use Rattle.std.specs.Option.{option_copied_mut}
use Rattle.ui_machine.specs.Definition.Values.{Value}
use Rattle.ui_machine.specs.Outcome.{Answer}
use Rattle.ui_machine.specs.State.Objects.{value_at, with_value}
use Rattle.instance_tables.specs.declared.instance.Instance.{Instance}
use Rattle.instance_tables.specs.View.{instances_at}
use Rattle.instance_tables.proofs.Shown.{never_asked, present_asked}
use Rattle.instance_tables.proofs.Maps.{written_beside, written_changes}
use Rattle.instance_tables.proofs.Short.{written_few}
use Rattle.instance_tables.proofs.Kin.{kin_kept, named_well}
use Rattle.instance_tables.proofs.Naming.{names_after}
use Rattle.instance_tables.proofs.Written.{has_slot}
use Rattle.instance_tables.proofs.table.Table.replace.Goals as goal

pub unreachable-requires : goal.unreachable-requires
unreachable-requires c =
    never_asked _ _ c.self.inside.limit c.self.inside.floating.items _ c.self.invariant.0 c.self.view_is _ (value_at c.args.slot)
    (sym c.get_mut.ensures.value ∙ ap option_copied_mut c.in_default.is) c.requires.slot

pub write-requires : goal.write-requires
write-requires c = record {
  slot = has_slot c.args.slot c.in-Some.instance.now.object.values
      (subst (λ (a : Answer Value). IsOk a)
      (present_asked _ _ c.self.inside.limit c.self.inside.floating.items _ c.self.invariant.0 c.self.view_is _ _ (value_at c.args.slot)
      (sym c.get_mut.ensures.value ∙ ap option_copied_mut c.in-Some.is)) c.requires.slot);
}

pub returns-clause-changes : goal.returns-clause-changes
returns-clause-changes c =
    let y : Instance = record { object = c.write.new.self; mentions = c.in-Some.instance.now.mentions } in
    written_changes c.self.inside.instances _ c.self.inside.limit c.self.inside.floating.items _ c.self.invariant.0 c.self.view_is _ _ y
    (sym c.get_mut.ensures.value ∙ ap option_copied_mut c.in-Some.is) (with_value c.args.slot (value_view c.args.value)) _ c.write.ensures.changes

pub returns-clause-beside : goal.returns-clause-beside
returns-clause-beside c =
    let y : Instance = record { object = c.write.new.self; mentions = c.in-Some.instance.now.mentions } in
    written_beside c.self.inside.instances _ c.self.inside.limit c.self.inside.floating.items _ c.self.invariant.0 c.self.view_is _ _ y
    (sym c.get_mut.ensures.value ∙ ap option_copied_mut c.in-Some.is) refl

pub invariant_of-self : goal.invariant_of-self
invariant_of-self c =
    let here = sym c.get_mut.ensures.value ∙ ap option_copied_mut c.in-Some.is in
    let y : Instance = record { object = c.write.new.self; mentions = c.in-Some.instance.now.mentions } in
    named_well c.self.inside.instances _ _ c.self.inside.namers _ _ y here c.self.invariant c.add_any.new.self
    (kin_kept (instances_at c.self.inside.instances) _ _ c.in-Some.instance.now c.write.new.self c.self.invariant.2 here c.write.ensures.kin)
    (written_few c.args.slot (value_view c.args.value) (value_view c.write.result) c.in-Some.instance.now.object c.write.new.self
    (c.self.invariant.4 c.args.id.0 c.in-Some.instance.now here) c.write.ensures.changes) refl
    (λ t h ne may. c.add_any.ensures.stays t h may)
    (λ t named.
    elim (names_after c.args.slot t (value_view c.args.value) _ c.in-Some.instance.now.object c.write.new.self
    c.write.ensures.changes named) [
      | inl old ↦ c.add_any.ensures.stays t c.args.id.0 (c.self.invariant.3 c.args.id.0 t c.in-Some.instance.now here old)
      | inr new ↦ c.add_any.ensures.added t (c.named.ensures ∙ new)
    ])
