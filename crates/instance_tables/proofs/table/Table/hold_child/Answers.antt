use Rattle.std.proofs.Common.{IsSome, sym, subst}
use Rattle.ui_machine.specs.Rules.Children.{with_child}
use Rattle.ui_machine.specs.State.Objects.{living}
use Rattle.instance_tables.specs.Store.{Store}
use Rattle.instance_tables.proofs.Families.{still_live, was_made}
use Rattle.instance_tables.proofs.table.Table.hold_child.Goals as goal

pub add_child-requires : goal.add_child-requires
add_child-requires c = record { live = c.requires.parent; given = (was_made c.args.self.now.objects c.args.child.0 c.requires.live).1 }

pub hold-requires-clause-live : goal.hold-requires-clause-live
hold-requires-clause-live c =
    subst (λ (s : Store). IsSome (living s.objects c.args.child.0)) (sym c.in_ok-add_child.ensures.ok)
    (still_live (with_child c.args.child.0) c.args.self.now.objects c.args.parent.0 c.args.child.0 c.requires.live)
