use Rattle.std.proofs.Common.{subst, arith}
use Rattle.std.specs.Map.{values_of}
use Rattle.ui_machine.specs.Rules.Connections.{is_on}
use Rattle.signal_core.specs.Connected.{Connected}
use Rattle.signal_core.specs.Kept.{IsNext, IsNextOf}
use Rattle.signal_core.proofs.Stepping.{next_on_is}
use Rattle.signal_core.proofs.handlers.Handlers.next_on.Goals as goal

pub returns : goal.returns
returns c =
    let kept = c.self.invariant in
    subst (λ (w : Connected). IsNextOf (is_on c.args.object.0 c.args.program) c.args.given w.handlers c.next.result) c.self.view_is
    (next_on_is c.self.inside.listings (values_of c.self.inside.connected.entries) c.self.inside.last (omega (arith, kept.room)) kept.rising kept.listed
    c.args.object.0 c.args.program c.args.given c.next.result
    (subst (λ s. IsNext c.self.inside.listings.by_program c.args.object.0 s 0 c.args.given c.next.result) c.from.ensures c.next.ensures))
