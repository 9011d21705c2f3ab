use Rattle.std.proofs.Common.{is_some, length, sym, ap, ◌∙◌, arith}
use Rattle.ui_machine.specs.Rules.Children.{without_child}
use Rattle.ui_machine.specs.State.Objects.{Objects}
use Rattle.instance_tables.specs.Store.{id_of}
use Rattle.instance_tables.proofs.Families.{has_one, leaves, length_updated, some_id, was_made}
use Rattle.instance_tables.proofs.table.Table.orphan.Goals as goal

pub returns-in_default-clause-leaves : goal.returns-in_default-clause-leaves
returns-in_default-clause-leaves c parent here =
    let none = sym (ap id_of c.in_default.is) ∙ c.parent_of.ensures.parent in
    absurd (some_id parent (none ∙ here))

pub returns-in_default-clause-had : goal.returns-in_default-clause-had
returns-in_default-clause-had c = ap is_some (sym (ap id_of c.in_default.is) ∙ c.parent_of.ensures.parent)

pub returns-clause-had : goal.returns-clause-had
returns-clause-had c = ap is_some (sym (ap id_of c.in-Some.is) ∙ c.parent_of.ensures.parent)

pub returns-clause-alone : goal.returns-clause-alone
returns-clause-alone c none =
    let some = sym (ap id_of c.in-Some.is) ∙ c.parent_of.ensures.parent in
    absurd (some_id c.in-Some.parent.0 (sym none ∙ sym some))

pub returns-clause-leaves : goal.returns-clause-leaves
returns-clause-leaves c parent here =
    let some = sym (ap id_of c.in-Some.is) ∙ c.parent_of.ensures.parent in
    leaves c.args.self.now c.remove_child-gone.new.self c.give_parent.new.self c.release.new.self c.in-Some.parent.0 parent c.args.child.0
    c.remove_child-gone.result some here c.remove_child-gone.ensures.objects c.remove_child-gone.ensures.beside c.remove_child-gone.ensures.count
    c.give_parent.ensures.objects c.give_parent.ensures.beside c.release.ensures.counts c.release.ensures.beside

pub give_parent-requires-clause-given : goal.give_parent-requires-clause-given
give_parent-requires-clause-given c =
    let old = c.args.self.now in
    let here = sym c.parent_of.ensures.parent ∙ ap id_of c.in-Some.is in
    let child_made = was_made old.objects c.args.child.0 (has_one old c.args.child.0 c.in-Some.parent.0 here) in
    let many =
    ap (λ (os : Objects). length os) c.remove_child-gone.ensures.objects
    ∙ length_updated (without_child c.args.child.0) old.objects c.in-Some.parent.0 (c.parent_of.ensures.given c.in-Some.parent.0 here) in
    omega (arith, many, child_made.1)
