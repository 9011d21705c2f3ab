use Rattle.std.proofs.Common.{◌≡◌, nat_eq, true, false, sym, ap, ◌∙◌, arith}
use Rattle.std.proofs.lemmas.Bool.Decides.{nat_tests}
use Rattle.std.specs.Option.{option_copied}
use Rattle.instance_tables.specs.View.{object_in}
use Rattle.instance_tables.proofs.Shown.{found_in}
use Rattle.instance_tables.proofs.Families.{no_parent_object, no_child_object, both, same_parent, has_parent, is_itself, is_full, may_join}
use Rattle.instance_tables.proofs.table.Table.refusal.Goals as goal

pub returns-in_default : goal.returns-in_default
returns-in_default c =
    no_parent_object c.args.self.now c.args.parent.0 c.args.child.0
    (found_in _ _ c.self.inside.limit c.self.inside.floating.items _ c.self.invariant.0 c.self.view_is _ ∙ ap object_in (sym c.get.ensures.value ∙ ap option_copied c.in_default.is))

pub returns-in_default-get : goal.returns-in_default-get
returns-in_default-get c =
    no_child_object c.args.self.now c.args.parent.0 c.args.child.0 c.in-Some.above.now.object
    (found_in _ _ c.self.inside.limit c.self.inside.floating.items _ c.self.invariant.0 c.self.view_is _ ∙ ap object_in (sym c.get.ensures.value ∙ ap option_copied c.in-Some.is))
    (found_in _ _ c.self.inside.limit c.self.inside.floating.items _ c.self.invariant.0 c.self.view_is _ ∙ ap object_in (sym c.get-2.ensures.value ∙ ap option_copied c.in_default-get.is))

pub returns-then-is_some : goal.returns-then-is_some
returns-then-is_some c =
    let above = found_in _ _ c.self.inside.limit c.self.inside.floating.items _ c.self.invariant.0 c.self.view_is _
    ∙ ap object_in (sym c.get.ensures.value ∙ ap option_copied c.in-Some.is) in
    let below = found_in _ _ c.self.inside.limit c.self.inside.floating.items _ c.self.invariant.0 c.self.view_is _
    ∙ ap object_in (sym c.get-2.ensures.value ∙ ap option_copied c.in-Some-get.is) in
    let some = same_parent c.parent.result c.in-Some-get.below.now.object c.parent.ensures ∙ sym c.is_some.ensures ∙ c.if-is_some.true in
    has_parent c.args.parent.0 c.args.child.0 c.in-Some.above.now.object c.in-Some-get.below.now.object some
    ∙ both c.args.self.now c.args.parent.0 c.args.child.0 c.in-Some.above.now.object c.in-Some-get.below.now.object above below

pub returns-then-parent-child : goal.returns-then-parent-child
returns-then-parent-child c =
    let above = found_in _ _ c.self.inside.limit c.self.inside.floating.items _ c.self.invariant.0 c.self.view_is _
    ∙ ap object_in (sym c.get.ensures.value ∙ ap option_copied c.in-Some.is) in
    let below = found_in _ _ c.self.inside.limit c.self.inside.floating.items _ c.self.invariant.0 c.self.view_is _
    ∙ ap object_in (sym c.get-2.ensures.value ∙ ap option_copied c.in-Some-get.is) in
    let none = same_parent c.parent.result c.in-Some-get.below.now.object c.parent.ensures ∙ sym c.is_some.ensures ∙ c.if-is_some.false in
    let itself : nat_eq c.args.parent.0 c.args.child.0 ≡ true = (let same = c.if-parent-child.true in grind (arith, nat_tests)) in
    is_itself c.args.parent.0 c.args.child.0 c.in-Some.above.now.object c.in-Some-get.below.now.object itself none
    ∙ both c.args.self.now c.args.parent.0 c.args.child.0 c.in-Some.above.now.object c.in-Some-get.below.now.object above below

pub returns-then-is_full : goal.returns-then-is_full
returns-then-is_full c =
    let above = found_in _ _ c.self.inside.limit c.self.inside.floating.items _ c.self.invariant.0 c.self.view_is _
    ∙ ap object_in (sym c.get.ensures.value ∙ ap option_copied c.in-Some.is) in
    let below = found_in _ _ c.self.inside.limit c.self.inside.floating.items _ c.self.invariant.0 c.self.view_is _
    ∙ ap object_in (sym c.get-2.ensures.value ∙ ap option_copied c.in-Some-get.is) in
    let none = same_parent c.parent.result c.in-Some-get.below.now.object c.parent.ensures ∙ sym c.is_some.ensures ∙ c.if-is_some.false in
    let other : nat_eq c.args.parent.0 c.args.child.0 ≡ false = (let same = c.if-parent-child.false in grind (arith, nat_tests)) in
    is_full c.args.parent.0 c.args.child.0 c.in-Some.above.now.object c.in-Some-get.below.now.object none other (sym c.is_full.ensures ∙ c.if-is_full.true)
    ∙ both c.args.self.now c.args.parent.0 c.args.child.0 c.in-Some.above.now.object c.in-Some-get.below.now.object above below

pub returns : goal.returns
returns c =
    let above = found_in _ _ c.self.inside.limit c.self.inside.floating.items _ c.self.invariant.0 c.self.view_is _
    ∙ ap object_in (sym c.get.ensures.value ∙ ap option_copied c.in-Some.is) in
    let below = found_in _ _ c.self.inside.limit c.self.inside.floating.items _ c.self.invariant.0 c.self.view_is _
    ∙ ap object_in (sym c.get-2.ensures.value ∙ ap option_copied c.in-Some-get.is) in
    let none = same_parent c.parent.result c.in-Some-get.below.now.object c.parent.ensures ∙ sym c.is_some.ensures ∙ c.if-is_some.false in
    let other : nat_eq c.args.parent.0 c.args.child.0 ≡ false = (let same = c.if-parent-child.false in grind (arith, nat_tests)) in
    may_join c.args.parent.0 c.args.child.0 c.in-Some.above.now.object c.in-Some-get.below.now.object none other (sym c.is_full.ensures ∙ c.if-is_full.false)
    ∙ both c.args.self.now c.args.parent.0 c.args.child.0 c.in-Some.above.now.object c.in-Some-get.below.now.object above below
