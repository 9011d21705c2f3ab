use Rattle.std.proofs.Common.{◌-◌, ◌^◌, List, subst, arith}
use Rattle.std.specs.Map.{values_of}
use Rattle.ui_machine.specs.State.Bindings.{Binding, listens}
use Rattle.bindings.specs.Kept.{IsNextOf}
use Rattle.bindings.proofs.Stepping.{next_of}
use Rattle.bindings.proofs.rising.Rising.listener_from.Goals as goal

pub returns : goal.returns
returns c =
    let p = listens c.args.object.0 c.args.slot in
    subst (λ (bs : List Binding). IsNextOf p c.args.from bs c.next_listener.result) c.self.view_is
    (next_of p c.self.inside.listings c.args.from (values_of c.self.inside.bound.entries) (2 ^ 64 - 1) (omega arith) c.self.invariant.rising c.self.invariant.listed c.next_listener.result
    c.next_listener.ensures)
