use Rattle.std.proofs.Common.{refl, sym, ap, ◌∙◌}
use Rattle.std.specs.Option.{option_copied_mut}
use Rattle.ui_machine.specs.Rules.NotifyQueue.{frozen_less}
use Rattle.instance_tables.specs.declared.instance.Instance.{Instance}
use Rattle.instance_tables.proofs.Shown.{able, never_changed}
use Rattle.instance_tables.proofs.Maps.{written_beside, written_changes}
use Rattle.instance_tables.proofs.Kin.{same_well}
use Rattle.instance_tables.proofs.Naming.{thawed_values}
use Rattle.instance_tables.proofs.Able.{may_thaw}
use Rattle.instance_tables.proofs.table.Table.thaw.Goals as goal

pub unreachable-requires : goal.unreachable-requires
unreachable-requires c =
    never_changed _ _ c.self.inside.limit c.self.inside.floating.items _ c.self.invariant.0 c.self.view_is _ frozen_less
    (sym c.get_mut.ensures.value ∙ ap option_copied_mut c.in_default.is) c.requires.able

pub thaw-requires : goal.thaw-requires
thaw-requires c =
    may_thaw c.in-Some.instance.now.object
    (able _ _ c.self.inside.limit c.self.inside.floating.items _ c.self.invariant.0 c.self.view_is _ c.in-Some.instance.now frozen_less
    (sym c.get_mut.ensures.value ∙ ap option_copied_mut c.in-Some.is) c.requires.able)

pub returns-clause-changes : goal.returns-clause-changes
returns-clause-changes c =
    let y : Instance = record { object = c.thaw.new.self; mentions = c.in-Some.instance.now.mentions } in
    written_changes c.self.inside.instances _ c.self.inside.limit c.self.inside.floating.items _ c.self.invariant.0 c.self.view_is _ _ y
    (sym c.get_mut.ensures.value ∙ ap option_copied_mut c.in-Some.is) frozen_less _ c.thaw.ensures.changes

pub returns-clause-beside : goal.returns-clause-beside
returns-clause-beside c =
    let y : Instance = record { object = c.thaw.new.self; mentions = c.in-Some.instance.now.mentions } in
    written_beside c.self.inside.instances _ c.self.inside.limit c.self.inside.floating.items _ c.self.invariant.0 c.self.view_is _ _ y
    (sym c.get_mut.ensures.value ∙ ap option_copied_mut c.in-Some.is) refl

pub invariant_of-self : goal.invariant_of-self
invariant_of-self c =
    let here = sym c.get_mut.ensures.value ∙ ap option_copied_mut c.in-Some.is in
    let y : Instance = record { object = c.thaw.new.self; mentions = c.in-Some.instance.now.mentions } in
    same_well c.self.inside.instances _ _ c.self.inside.namers _ _ y here c.self.invariant c.thaw.ensures.kin refl
    (thawed_values c.in-Some.instance.now.object c.thaw.new.self _ c.thaw.ensures.changes)
