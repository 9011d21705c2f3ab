use Rattle.std.proofs.Common.{◌++◌, ◌<◌, false, subst, sym, arith}
use Rattle.std.specs.List.{All}
use Rattle.ui_machine.specs.State.Bindings.{Binding}
use Rattle.bindings.specs.Made as made
use Rattle.bindings.proofs.Numbers.{front_below, put_below}
use Rattle.bindings.proofs.list.Bindings.bind_as.Goals as goal

pub put-requires : goal.put-requires
put-requires c = record {
  below = front_below c.self.inside.rising c.self.inside.others.items c.self.inside.next c.self.invariant.0;
  few = omega (arith, c.in-Some.ensures);
}

pub invariant_of-self-2 : goal.invariant_of-self-2
invariant_of-self-2 c = (
  subst (All (λ (b : Binding). b.number < c.max-self-inside.result)) (sym c.in_ok-put.ensures.ok)
      (put_below (c.self.inside.rising ++ c.self.inside.others.items) (made.binding_of c.args.number false c.args.binding) c.self.inside.next c.max-self-inside.result c.self.invariant.0
      (omega (arith, c.max-self-inside.ensures, c.in-Some.ensures))),
  omega (arith, c.max-self-inside.ensures),
)
