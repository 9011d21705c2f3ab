use Rattle.std.proofs.Common.{refl, sym, ap, ◌∙◌}
use Rattle.std.specs.Option.{option_copied_mut}
use Rattle.ui_machine.specs.Rules.NotifyQueue.{frozen_more}
use Rattle.instance_tables.specs.declared.instance.Instance.{Instance}
use Rattle.instance_tables.proofs.Shown.{able, never_changed}
use Rattle.instance_tables.proofs.Maps.{written_beside, written_changes}
use Rattle.instance_tables.proofs.Kin.{same_well}
use Rattle.instance_tables.proofs.Naming.{frozen_values}
use Rattle.instance_tables.proofs.Able.{may_freeze}
use Rattle.instance_tables.proofs.table.Table.freeze.Goals as goal

pub unreachable-requires : goal.unreachable-requires
unreachable-requires c =
    never_changed _ _ c.self.inside.limit c.self.inside.floating.items _ c.self.invariant.0 c.self.view_is _ frozen_more
    (sym c.get_mut.ensures.value ∙ ap option_copied_mut c.in_default.is) c.requires.able

pub freeze-requires : goal.freeze-requires
freeze-requires c =
    may_freeze c.in-Some.instance.now.object
    (able _ _ c.self.inside.limit c.self.inside.floating.items _ c.self.invariant.0 c.self.view_is _ c.in-Some.instance.now frozen_more
    (sym c.get_mut.ensures.value ∙ ap option_copied_mut c.in-Some.is) c.requires.able)

pub returns-clause-changes : goal.returns-clause-changes
returns-clause-changes c =
    let y : Instance = record { object = c.freeze.new.self; mentions = c.in-Some.instance.now.mentions } in
    written_changes c.self.inside.instances _ c.self.inside.limit c.self.inside.floating.items _ c.self.invariant.0 c.self.view_is _ _ y
    (sym c.get_mut.ensures.value ∙ ap option_copied_mut c.in-Some.is) frozen_more _ c.freeze.ensures.changes

pub returns-clause-beside : goal.returns-clause-beside
returns-clause-beside c =
    let y : Instance = record { object = c.freeze.new.self; mentions = c.in-Some.instance.now.mentions } in
    written_beside c.self.inside.instances _ c.self.inside.limit c.self.inside.floating.items _ c.self.invariant.0 c.self.view_is _ _ y
    (sym c.get_mut.ensures.value ∙ ap option_copied_mut c.in-Some.is) refl

pub invariant_of-self : goal.invariant_of-self
invariant_of-self c =
    let here = sym c.get_mut.ensures.value ∙ ap option_copied_mut c.in-Some.is in
    let y : Instance = record { object = c.freeze.new.self; mentions = c.in-Some.instance.now.mentions } in
    same_well c.self.inside.instances _ _ c.self.inside.namers _ _ y here c.self.invariant c.freeze.ensures.kin refl
    (frozen_values c.in-Some.instance.now.object c.freeze.new.self _ c.freeze.ensures.changes)
