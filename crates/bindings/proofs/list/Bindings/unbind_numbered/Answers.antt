use Rattle.std.proofs.Common.{◌++◌, nat_eq, not}
use Rattle.ui_machine.specs.State.Bindings.{Binding}
use Rattle.bindings.proofs.Numbers.{both_left, left_below}
use Rattle.bindings.proofs.list.Bindings.unbind_numbered.Goals as goal

pub invariant_of-self : goal.invariant_of-self
invariant_of-self c =
    let rising = c.self.inside.rising in
    let others = c.self.inside.others.items in (
      left_below (λ (b : Binding). not (nat_eq b.number c.args.number)) (rising ++ others) (c.remove.new.self ++ c.end_numbered.new.bound.items) c.self.inside.next c.self.invariant.0
          (both_left (λ (b : Binding). not (nat_eq b.number c.args.number)) rising others c.remove.new.self c.end_numbered.new.bound.items c.remove.ensures c.end_numbered.ensures),
      c.self.invariant.1,
    )
