use Rattle.std.proofs.Common.{refl, sym, ap, ◌∙◌}
use Rattle.std.specs.Option.{option_copied_mut}
use Rattle.ui_machine.specs.Rules.NotifyQueue.{raised}
use Rattle.instance_tables.specs.declared.instance.Instance.{Instance}
use Rattle.instance_tables.proofs.Shown.{not_absent}
use Rattle.instance_tables.proofs.Maps.{written_beside, written_follows, written_refused}
use Rattle.instance_tables.proofs.Kin.{same_well}
use Rattle.instance_tables.proofs.Naming.{raised_values}
use Rattle.instance_tables.proofs.table.Table.add.Goals as goal

pub unreachable-requires : goal.unreachable-requires
unreachable-requires c =
    not_absent _ _ c.self.inside.limit c.self.inside.floating.items _ c.self.invariant.0 c.self.view_is _
    (sym c.get_mut.ensures.value ∙ ap option_copied_mut c.in_default.is) c.requires.live

pub returns-clause-changes : goal.returns-clause-changes
returns-clause-changes c =
    let y : Instance = record { object = c.add.new.self; mentions = c.in-Some.instance.now.mentions } in
    written_follows c.self.inside.instances _ c.self.inside.limit c.self.inside.floating.items _ c.self.invariant.0 c.self.view_is _ _ y
    (sym c.get_mut.ensures.value ∙ ap option_copied_mut c.in-Some.is) (raised c.args.slot) c.add.result c.add.ensures.changes

pub returns-clause-beside : goal.returns-clause-beside
returns-clause-beside c =
    let y : Instance = record { object = c.add.new.self; mentions = c.in-Some.instance.now.mentions } in
    written_beside c.self.inside.instances _ c.self.inside.limit c.self.inside.floating.items _ c.self.invariant.0 c.self.view_is _ _ y
    (sym c.get_mut.ensures.value ∙ ap option_copied_mut c.in-Some.is) refl

pub returns-clause-refused : goal.returns-clause-refused
returns-clause-refused c =
    let y : Instance = record { object = c.add.new.self; mentions = c.in-Some.instance.now.mentions } in
    written_refused c.self.inside.instances _ c.self.inside.limit c.self.inside.floating.items _ c.self.invariant.0 c.self.view_is _ _ y
    (sym c.get_mut.ensures.value ∙ ap option_copied_mut c.in-Some.is) c.add.result c.add.ensures.refused refl

pub invariant_of-self : goal.invariant_of-self
invariant_of-self c =
    let here = sym c.get_mut.ensures.value ∙ ap option_copied_mut c.in-Some.is in
    let y : Instance = record { object = c.add.new.self; mentions = c.in-Some.instance.now.mentions } in
    same_well c.self.inside.instances _ _ c.self.inside.namers _ _ y here c.self.invariant c.add.ensures.kin refl
    (raised_values c.add.result c.args.slot c.in-Some.instance.now.object c.add.new.self c.add.ensures.changes c.add.ensures.refused)
