use Rattle.std.proofs.Common.{ℕ, length, refl, sym, ap, ◌∙◌, arith, Option}
use Rattle.instance_tables.specs.View.{instances_at}
use Rattle.std.specs.Option.{option_copied_mut}
use Rattle.ui_machine.specs.Rules.Children.{without_child}
use Rattle.instance_tables.specs.Store.{Store}
use Rattle.instance_tables.specs.declared.instance.Instance.{Instance}
use Rattle.instance_tables.proofs.Shown.{absent_updated, found_in}
use Rattle.instance_tables.proofs.Maps.{written_updates, written_beside}
use Rattle.instance_tables.proofs.Short.{without_few}
use Rattle.instance_tables.proofs.Kin.{kin_well, without_given}
use Rattle.instance_tables.proofs.table.Table.remove_child.Goals as goal
use Rattle.ui_machine.specs.Seq.{total}
use Rattle.ui_machine.specs.State.References.{same}
use Rattle.ui_machine.specs.State.Objects.{Object}
use Rattle.ui_machine.specs.Rules.Disposal.{children_of}
use Rattle.instance_tables.specs.View.{object_in}
use Rattle.instance_tables.proofs.Without.{gone_of}

pub returns-in_default-clause-objects : goal.returns-in_default-clause-objects
returns-in_default-clause-objects c =
    let none = sym c.get_mut.ensures.value ∙ ap option_copied_mut c.in_default.is in
    ap (λ (s : Store). s.objects) c.self.view_is
    ∙ absent_updated _ _ c.self.inside.limit c.self.inside.floating.items _ c.self.invariant.0 c.self.view_is _ (without_child c.args.child.0) none c.requires.given

pub returns-in_default-clause-count : goal.returns-in_default-clause-count
returns-in_default-clause-count c =
    let none = sym c.get_mut.ensures.value ∙ ap option_copied_mut c.in_default.is in
    ap (λ (o : Option Object). total (same c.args.child.0) (children_of o)) (sym (found_in _ _ c.self.inside.limit c.self.inside.floating.items _ c.self.invariant.0 c.self.view_is _ ∙ ap object_in none))

pub returns-clause-objects : goal.returns-clause-objects
returns-clause-objects c =
    let here = sym c.get_mut.ensures.value ∙ ap option_copied_mut c.in-Some.is in
    let y : Instance = record { object = c.remove_child.new.self; mentions = c.in-Some.instance.now.mentions } in
    written_updates c.self.inside.instances _ c.self.inside.limit c.self.inside.floating.items _ c.self.invariant.0 c.self.view_is _ _ y
    here (without_child c.args.child.0) c.remove_child.ensures.object

pub returns-clause-count : goal.returns-clause-count
returns-clause-count c =
    let here = sym c.get_mut.ensures.value ∙ ap option_copied_mut c.in-Some.is in
    let child : ℕ = c.args.child.0 in
    let now = ap (λ (o : Object). length o.children) c.remove_child.ensures.object in
    let was = ap (λ (o : Option Object). total (same child) (children_of o)) (found_in _ _ c.self.inside.limit c.self.inside.floating.items _ c.self.invariant.0 c.self.view_is _ ∙ ap object_in here) in
    omega (arith, now, was, c.remove_child.ensures.count, gone_of child c.in-Some.instance.now.object.children)

pub returns-clause-beside : goal.returns-clause-beside
returns-clause-beside c =
    let here = sym c.get_mut.ensures.value ∙ ap option_copied_mut c.in-Some.is in
    let y : Instance = record { object = c.remove_child.new.self; mentions = c.in-Some.instance.now.mentions } in
    written_beside c.self.inside.instances _ c.self.inside.limit c.self.inside.floating.items _ c.self.invariant.0 c.self.view_is _ _ y
    here refl

pub invariant_of-self-2 : goal.invariant_of-self-2
invariant_of-self-2 c =
    let here = sym c.get_mut.ensures.value ∙ ap option_copied_mut c.in-Some.is in
    let y : Instance = record { object = c.remove_child.new.self; mentions = c.in-Some.instance.now.mentions } in
    kin_well c.self.inside.instances _ _ c.self.inside.namers _ _ y here c.self.invariant
    (without_given (instances_at c.self.inside.instances) _ _ c.self.invariant.2 c.in-Some.instance.now here c.remove_child.new.self c.args.child.0 c.remove_child.ensures.object)
    (without_few c.args.child.0 c.remove_child.result c.in-Some.instance.now.object c.remove_child.new.self
    (c.self.invariant.4 c.args.parent.0 c.in-Some.instance.now here) c.remove_child.ensures.object c.remove_child.ensures.count) refl
    (ap (λ (o : Object). o.values) c.remove_child.ensures.object)
