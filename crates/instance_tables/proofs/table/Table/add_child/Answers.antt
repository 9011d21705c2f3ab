use Rattle.std.proofs.Common.{Result, Ok, Err, OnErr, refl, sym, ap, ◌∙◌, arith}
use Rattle.std.specs.Option.{option_copied_mut}
use Rattle.ui_machine.specs.Rules.Children.{with_child}
use Rattle.ui_machine.specs.State.Objects.{Object}
use Rattle.instance_tables.specs.Store.{with_objects}
use Rattle.instance_tables.specs.declared.instance.Instance.{Instance}
use Rattle.instance_tables.specs.View.{instances_at}
use Rattle.instance_tables.proofs.Shown.{given_out, not_absent}
use Rattle.instance_tables.proofs.Maps.{written_updates, written_beside, written_kept}
use Rattle.instance_tables.proofs.Kin.{kin_well, child_given, unchanged_well}
use Rattle.instance_tables.proofs.table.Table.add_child.Goals as goal

pub returns-clause-ok : goal.returns-clause-ok
returns-clause-ok c =
    let here = sym c.get_mut.ensures.value ∙ ap option_copied_mut c.in-Some.is in
    let y : Instance = record { object = c.add_child.new.self; mentions = c.in-Some.instance.now.mentions } in
    written_beside c.self.inside.instances _ c.self.inside.limit c.self.inside.floating.items _ c.self.invariant.0 c.self.view_is _ _ y
    here refl
    ∙ ap (with_objects c.args.self.now)
    (written_updates c.self.inside.instances _ c.self.inside.limit c.self.inside.floating.items _ c.self.invariant.0 c.self.view_is _ _ y
    here (with_child c.args.child.0) c.in_ok-add_child.ensures.ok)

pub unreachable-requires : goal.unreachable-requires
unreachable-requires c =
    not_absent _ _ c.self.inside.limit c.self.inside.floating.items _ c.self.invariant.0 c.self.view_is _
    (sym c.get_mut.ensures.value ∙ ap option_copied_mut c.in_default.is) c.requires.live

pub invariant_of-self-2 : goal.invariant_of-self-2
invariant_of-self-2 c =
    let here = sym c.get_mut.ensures.value ∙ ap option_copied_mut c.in-Some.is in
    let made = given_out (instances_at c.self.inside.instances) _ c.self.inside.limit c.self.inside.floating.items _ c.self.view_is in
    let y : Instance = record { object = c.add_child.new.self; mentions = c.in-Some.instance.now.mentions } in
    kin_well c.self.inside.instances _ _ c.self.inside.namers _ _ y here c.self.invariant
    (child_given (instances_at c.self.inside.instances) _ _ c.self.invariant.2 c.in-Some.instance.now here c.add_child.new.self c.args.child.0 c.in_ok-add_child.ensures.ok
    (omega (arith, made, c.requires.given))) c.in_ok-add_child.ensures.few refl
    (ap (λ (o : Object). o.values) c.in_ok-add_child.ensures.ok)

pub invariant_of-self : goal.invariant_of-self
invariant_of-self c =
    let here = sym c.get_mut.ensures.value ∙ ap option_copied_mut c.in-Some.is in
    let y : Instance = record { object = c.add_child.new.self; mentions = c.in-Some.instance.now.mentions } in
    unchanged_well c.self.inside.instances _ _ c.self.inside.namers _ _ y here c.self.invariant c.in_err-add_child.ensures.err refl

on_err : {X E P : Type 0} (r : Result X E) → P → OnErr r P
on_err (Ok x) p = tt
on_err (Err why) p = p

pub returns-in_err-add_child-clause-err : goal.returns-in_err-add_child-clause-err
returns-in_err-add_child-clause-err c =
    let here = sym c.get_mut.ensures.value ∙ ap option_copied_mut c.in-Some.is in
    let y : Instance = record { object = c.add_child.new.self; mentions = c.in-Some.instance.now.mentions } in
    on_err c.from_residual.result
    (written_kept c.self.inside.instances _ c.self.inside.limit c.self.inside.floating.items _ c.self.invariant.0 c.self.view_is _ _ y
    here c.in_err-add_child.ensures.err refl)
