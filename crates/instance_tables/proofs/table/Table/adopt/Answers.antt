use Rattle.std.proofs.Common.{◌≡◌, length, sym, ap, ◌∙◌, arith}
use Rattle.ui_machine.specs.Rules.Children.{with_child}
use Rattle.instance_tables.specs.Store.{Store}
use Rattle.instance_tables.proofs.Families.{both_live, joins, length_updated, was_made}
use Rattle.instance_tables.proofs.table.Table.adopt.Goals as goal

pub returns : goal.returns
returns c =
    let none = sym c.refusal.ensures ∙ c.in_default.is in (
      none,
      joins c.args.self.now c.hold_child.new.self c.give_parent.new.self c.sink.new.self c.args.parent.0 c.args.child.0 none
          c.in-Ok.ensures.ok c.give_parent.ensures.objects c.give_parent.ensures.beside c.sink.ensures,
    )

pub give_parent-requires-clause-given : goal.give_parent-requires-clause-given
give_parent-requires-clause-given c =
    let old = c.args.self.now in
    let live = both_live old c.args.parent.0 c.args.child.0 (sym c.refusal.ensures ∙ c.in_default.is) in
    let many =
    ap (λ (s : Store). length s.objects) c.in-Ok.ensures.ok
    ∙ length_updated (with_child c.args.child.0) old.objects c.args.parent.0 (was_made old.objects c.args.parent.0 live.0).1 in
    omega (arith, many, (was_made old.objects c.args.child.0 live.1).1)

pub give_parent-requires-clause-kin : goal.give_parent-requires-clause-kin
give_parent-requires-clause-kin c p e =
    let old = c.args.self.now in
    let live = both_live old c.args.parent.0 c.args.child.0 (sym c.refusal.ensures ∙ c.in_default.is) in
    let many =
    ap (λ (s : Store). length s.objects) c.in-Ok.ensures.ok
    ∙ length_updated (with_child c.args.child.0) old.objects c.args.parent.0 (was_made old.objects c.args.parent.0 live.0).1 in
    let same : c.args.parent.0 ≡ p = cc in
    omega (arith, many, same, (was_made old.objects c.args.parent.0 live.0).1)

pub hold_child-requires-clause-parent : goal.hold_child-requires-clause-parent
hold_child-requires-clause-parent c = (both_live c.args.self.now c.args.parent.0 c.args.child.0 (sym c.refusal.ensures ∙ c.in_default.is)).0
