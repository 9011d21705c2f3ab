use Rattle.std.proofs.Common.{◌+◌, ◌≤◌, subst, arith}
use Rattle.std.specs.List.{AllByRecursion}
use Rattle.std.specs.Map.{values_of}
use Rattle.signal_core.specs.Connected.{Connected}
use Rattle.signal_core.specs.Kept.{IsNextOf, may_run}
use Rattle.signal_core.proofs.Keeping.{all_each, all_one, all_within}
use Rattle.signal_core.proofs.Stepping.{Gap, None_past, next_listed}
use Rattle.signal_core.proofs.handlers.Handlers.next_to.Goals as goal

pub returns-then-self : goal.returns-then-self
returns-then-self c =
    let kept = c.self.invariant in
    subst (λ (w : Connected). IsNextOf (may_run c.args.cursor.now c.args.after) c.args.given w.handlers c.next_to.result) c.self.view_is
    (next_listed (may_run c.args.cursor.now c.args.after) c.self.inside.listings c.args.given (values_of c.self.inside.connected.entries) c.self.inside.last (omega (arith, kept.room))
    kept.rising kept.listed c.next_to.result c.next_to.ensures.above c.next_to.ensures.next)

pub returns-then-given-self : goal.returns-then-given-self
returns-then-given-self c = (
  omega arith,
  all_each (Gap (may_run c.args.cursor.now c.args.after) c.args.given (c.args.given + 1)) (λ h of up low. omega (arith, up, low)) c.args.self.now.handlers,
)

pub returns-else-given-self : goal.returns-else-given-self
returns-else-given-self c =
    let p = may_run c.args.cursor.now c.args.after in
    subst (λ (w : Connected). AllByRecursion (None_past p c.args.given) w.handlers) c.self.view_is
    (all_one (λ h. h.number ≤ c.self.inside.last) (None_past p c.args.given) (λ h low of up. omega (arith, low, up, c.if-given-self.false)) (values_of c.self.inside.connected.entries)
    (all_within 0 (values_of c.self.inside.connected.entries) c.self.inside.last c.self.invariant.rising))
