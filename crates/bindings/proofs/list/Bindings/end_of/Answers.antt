use Rattle.std.proofs.Common.{◌++◌, not}
use Rattle.ui_machine.specs.State.Bindings.{Binding, is_end}
use Rattle.bindings.proofs.Numbers.{both_left, left_below}
use Rattle.bindings.proofs.list.Bindings.end_of.Goals as goal

pub invariant_of-self : goal.invariant_of-self
invariant_of-self c =
    let rising = c.self.inside.rising in
    let others = c.self.inside.others.items in (
      left_below (λ (b : Binding). not (is_end c.args.object.0 b)) (rising ++ others) (c.end_of-count.new.self ++ c.end_at.new.bound.items) c.self.inside.next c.self.invariant.0
          (both_left (λ (b : Binding). not (is_end c.args.object.0 b)) rising others c.end_of-count.new.self c.end_at.new.bound.items c.end_of-count.ensures.left c.end_at.ensures),
      c.self.invariant.1,
    )
