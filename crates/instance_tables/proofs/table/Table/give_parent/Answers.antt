use Rattle.std.proofs.Common.{refl, sym, ap, ◌∙◌, arith}
use Rattle.instance_tables.specs.View.{instances_at}
use Rattle.std.specs.Option.{option_copied_mut}
use Rattle.ui_machine.specs.Rules.Children.{with_parent}
use Rattle.ui_machine.specs.State.Objects.{Object}
use Rattle.instance_tables.specs.Store.{id_of, Store}
use Rattle.instance_tables.specs.declared.instance.Instance.{Instance}
use Rattle.instance_tables.proofs.Shown.{given_out, absent_updated}
use Rattle.instance_tables.proofs.Maps.{written_updates, written_beside}
use Rattle.instance_tables.proofs.Short.{parent_few}
use Rattle.instance_tables.proofs.Kin.{kin_well, parent_given}
use Rattle.instance_tables.proofs.table.Table.give_parent.Goals as goal

pub returns-in_default-clause-objects : goal.returns-in_default-clause-objects
returns-in_default-clause-objects c =
    let none = sym c.get_mut.ensures.value ∙ ap option_copied_mut c.in_default.is in
    ap (λ (s : Store). s.objects) c.self.view_is
    ∙ absent_updated _ _ c.self.inside.limit c.self.inside.floating.items _ c.self.invariant.0 c.self.view_is _ (with_parent (id_of c.args.parent)) none c.requires.given

pub returns-clause-objects : goal.returns-clause-objects
returns-clause-objects c =
    let here = sym c.get_mut.ensures.value ∙ ap option_copied_mut c.in-Some.is in
    let y : Instance = record { object = c.give_parent.new.self; mentions = c.in-Some.instance.now.mentions } in
    written_updates c.self.inside.instances _ c.self.inside.limit c.self.inside.floating.items _ c.self.invariant.0 c.self.view_is _ _ y
    here (with_parent (id_of c.args.parent)) c.give_parent.ensures

pub returns-clause-beside : goal.returns-clause-beside
returns-clause-beside c =
    let here = sym c.get_mut.ensures.value ∙ ap option_copied_mut c.in-Some.is in
    let y : Instance = record { object = c.give_parent.new.self; mentions = c.in-Some.instance.now.mentions } in
    written_beside c.self.inside.instances _ c.self.inside.limit c.self.inside.floating.items _ c.self.invariant.0 c.self.view_is _ _ y
    here refl

pub invariant_of-self-2 : goal.invariant_of-self-2
invariant_of-self-2 c =
    let here = sym c.get_mut.ensures.value ∙ ap option_copied_mut c.in-Some.is in
    let made = given_out (instances_at c.self.inside.instances) _ c.self.inside.limit c.self.inside.floating.items _ c.self.view_is in
    let y : Instance = record { object = c.give_parent.new.self; mentions = c.in-Some.instance.now.mentions } in
    kin_well c.self.inside.instances _ _ c.self.inside.namers _ _ y here c.self.invariant
    (parent_given (instances_at c.self.inside.instances) _ _ c.self.invariant.2 c.in-Some.instance.now here c.give_parent.new.self (id_of c.args.parent) c.give_parent.ensures
    (λ p e. omega (arith, made, c.requires.kin p e)))
    (parent_few (id_of c.args.parent) c.in-Some.instance.now.object c.give_parent.new.self (c.self.invariant.4 c.args.id.0 c.in-Some.instance.now here)
    c.give_parent.ensures) refl
    (ap (λ (o : Object). o.values) c.give_parent.ensures)
