use Rattle.std.proofs.Common.{subst, arith}
use Rattle.std.specs.Map.{values_of}
use Rattle.ui_machine.specs.Rules.Disposal.{is_of_object}
use Rattle.signal_core.specs.Connected.{Connected}
use Rattle.signal_core.specs.Kept.{IsNextOf}
use Rattle.signal_core.proofs.Stepping.{next_of_is}
use Rattle.signal_core.proofs.handlers.Handlers.next_of.Goals as goal

pub returns : goal.returns
returns c =
    let kept = c.self.invariant in
    subst (λ (w : Connected). IsNextOf (is_of_object c.args.object.0) c.args.given w.handlers c.next.result) c.self.view_is
    (next_of_is c.self.inside.listings (values_of c.self.inside.connected.entries) c.self.inside.last (omega (arith, kept.room)) kept.rising kept.listed
    c.args.object.0 c.args.given c.next.result c.next.ensures)
