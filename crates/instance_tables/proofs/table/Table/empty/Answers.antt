use Rattle.std.proofs.Common.{◌≡◌, ◌<◌, ℕ, IsSome, length, refl, sym, ap, subst, ◌∙◌, arith}
use Rattle.std.specs.Option.{option_copied_mut}
use Rattle.ui_machine.specs.Seq.{total}
use Rattle.ui_machine.specs.State.Objects.{Object, Objects, living}
use Rattle.ui_machine.specs.State.References.{same}
use Rattle.ui_machine.specs.Rules.Disposal.{children_of}
use Rattle.ui_machine.specs.Rules.Children.{updated}
use Rattle.instance_tables.specs.Weak.{Marks}
use Rattle.instance_tables.specs.Release.{emptied}
use Rattle.instance_tables.specs.View.{object_in, instances_at}
use Rattle.instance_tables.specs.declared.instance.Instance.{Instance}
use Rattle.instance_tables.proofs.Families.{length_updated, was_made}
use Rattle.instance_tables.proofs.Shown.{found_in, not_absent}
use Rattle.instance_tables.proofs.Maps.{written_updates, written_beside}
use Rattle.instance_tables.proofs.Short.{emptied_few}
use Rattle.instance_tables.proofs.Kin.{children_made, named_well, childless_given}
use Rattle.instance_tables.proofs.table.Table.empty.Goals as goal

pub returns-in_default-clause-objects : goal.returns-in_default-clause-objects
returns-in_default-clause-objects c =
    let none = sym c.get_mut.ensures.value ∙ ap option_copied_mut c.in_default.is in
    absurd (not_absent _ _ c.self.inside.limit c.self.inside.floating.items _ c.self.invariant.0 c.self.view_is _ none c.requires.live)

pub returns-in_default-clause-children : goal.returns-in_default-clause-children
returns-in_default-clause-children c =
    let none = sym c.get_mut.ensures.value ∙ ap option_copied_mut c.in_default.is in
    absurd (not_absent _ _ c.self.inside.limit c.self.inside.floating.items _ c.self.invariant.0 c.self.view_is _ none c.requires.live)

pub invariant_of-self-2 : goal.invariant_of-self-2
invariant_of-self-2 c =
    let here = sym c.get_mut.ensures.value ∙ ap option_copied_mut c.in-Some.is in
    let y : Instance = record { object = c.dispose.new.object; mentions = c.in-Some.instance.now.mentions } in
    named_well c.self.inside.instances _ _ c.self.inside.namers _ _ y here c.self.invariant c.dispose.new.self
    (childless_given (instances_at c.self.inside.instances) _ _ c.self.invariant.2 c.in-Some.instance.now here c.dispose.new.object
    (ap (λ (o : Object). o.children) c.dispose.ensures.object) (ap (λ (o : Object). o.parent) c.dispose.ensures.object))
    (emptied_few c.args.weak.now c.in-Some.instance.now.object c.dispose.new.object (c.self.invariant.4 c.args.id.0 c.in-Some.instance.now here)
    c.dispose.ensures.object)
    refl c.dispose.ensures.others c.dispose.ensures.names

pub returns-clause-objects : goal.returns-clause-objects
returns-clause-objects c =
    let here = sym c.get_mut.ensures.value ∙ ap option_copied_mut c.in-Some.is in
    let y : Instance = record { object = c.dispose.new.object; mentions = c.in-Some.instance.now.mentions } in
    written_updates c.self.inside.instances _ c.self.inside.limit c.self.inside.floating.items _ c.self.invariant.0 c.self.view_is _ _ y
    here (emptied c.args.weak.now) c.dispose.ensures.object

pub returns-clause-beside : goal.returns-clause-beside
returns-clause-beside c =
    let here = sym c.get_mut.ensures.value ∙ ap option_copied_mut c.in-Some.is in
    let y : Instance = record { object = c.dispose.new.object; mentions = c.in-Some.instance.now.mentions } in
    written_beside c.self.inside.instances _ c.self.inside.limit c.self.inside.floating.items _ c.self.invariant.0 c.self.view_is _ _ y
    here refl

pub returns-clause-children : goal.returns-clause-children
returns-clause-children c =
    let here = sym c.get_mut.ensures.value ∙ ap option_copied_mut c.in-Some.is in
    c.dispose.ensures.children
    ∙ ap children_of (sym (found_in _ _ c.self.inside.limit c.self.inside.floating.items _ c.self.invariant.0 c.self.view_is _ ∙ ap object_in here))

-- as many were made as before
many : (old new : Objects) (weak : Marks) (id : ℕ) → IsSome (living old id) → new ≡ updated (emptied weak) id old → length new ≡ length old
many old new weak id live e = ap (λ (os : Objects). length os) e ∙ length_updated (emptied weak) old id (was_made old id live).1

pub returns-in_default-clause-made : goal.returns-in_default-clause-made
returns-in_default-clause-made c =
    let none = sym c.get_mut.ensures.value ∙ ap option_copied_mut c.in_default.is in
    absurd (not_absent _ _ c.self.inside.limit c.self.inside.floating.items _ c.self.invariant.0 c.self.view_is _ none c.requires.live)

pub returns-clause-made : goal.returns-clause-made
returns-clause-made c = many c.args.self.now.objects _ c.args.weak.now c.args.id.0 c.requires.live (returns-clause-objects c)

pub returns-clause-given : goal.returns-clause-given
returns-clause-given c child some =
    let here = sym c.get_mut.ensures.value ∙ ap option_copied_mut c.in-Some.is in
    let children = c.dispose.ensures.children
    ∙ ap children_of (sym (found_in _ _ c.self.inside.limit c.self.inside.floating.items _ c.self.invariant.0 c.self.view_is _ ∙ ap object_in here)) in
    let small = children_made (instances_at c.self.inside.instances) _ c.self.inside.limit c.self.inside.floating.items _ c.self.invariant.0 c.self.view_is c.self.invariant.2 c.args.id.0
    child (subst (λ is. 0 < total (same child) is) children some) in
    omega (arith, small, returns-clause-made c)
