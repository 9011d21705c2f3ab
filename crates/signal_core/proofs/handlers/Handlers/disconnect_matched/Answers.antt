use Rattle.std.proofs.Common.{◌∙◌, ◌+◌, List, count_by, not, ap, subst, arith}
use Rattle.std.specs.List.{AllByRecursion, filter}
use Rattle.ui_machine.specs.Rules.Connections.{is_on}
use Rattle.ui_machine.specs.State.Handlers.{Handler}
use Rattle.signal_core.specs.Connected.{Connected}
use Rattle.signal_core.specs.Kept.{is_numbered}
use Rattle.signal_core.proofs.Keeping.{count_within}
use Rattle.signal_core.proofs.Stepping.{Gap, None_past, counted_all, counted_none, left_all, left_count, left_none, left_step, past_left, up_to}
use Rattle.signal_core.proofs.handlers.Handlers.disconnect_matched.Goals as goal

pub handlers-init : goal.handlers-init
handlers-init c =
    let p = is_on c.args.object.0 c.args.program in
    let hs = c.args.self.now.handlers in
    record {
      done = ap (λ (these : List Handler). record c.args.self.now { handlers = these }) (left_none p hs c.args.self.now.last c.last.ensures.rises);
      counted = counted_none p hs c.args.self.now.last c.last.ensures.rises;
      rising = c.last.ensures.rises;
    }

pub overflow_add-count : goal.overflow_add-count
overflow_add-count c =
    let p = is_on c.args.object.0 c.args.program in
    let hs = c.args.self.now.handlers in
    let m = c.in-Some.number in
    let up = c.in-Some.ensures.0 in
    let gaps = subst (λ (w : Connected). AllByRecursion (Gap p c.handlers.at m) w.handlers) c.handlers.invariant.done c.in-Some.ensures.1 in
    let counted = ap (λ k. k + c.disconnect_on-count.result) c.handlers.invariant.counted
    ∙ ap (λ k. count_by (up_to p c.handlers.at) hs + k) (c.disconnect_on-count.ensures.count ∙ ap (λ (w : Connected). count_by (is_numbered p m) w.handlers) c.handlers.invariant.done)
    ∙ left_count p c.handlers.at m up hs gaps in
    omega (arith, counted, count_within (up_to p m) 0 hs c.args.self.now.last c.last.ensures.rises, c.last.ensures.number)

pub handlers-preserved : goal.handlers-preserved
handlers-preserved c =
    let p = is_on c.args.object.0 c.args.program in
    let hs = c.args.self.now.handlers in
    let m = c.in-Some.number in
    let up = c.in-Some.ensures.0 in
    let gaps = subst (λ (w : Connected). AllByRecursion (Gap p c.handlers.at m) w.handlers) c.handlers.invariant.done c.in-Some.ensures.1 in
    record {
      done = c.disconnect_on-count.ensures.left
          ∙ ap (λ (w : Connected). record w { handlers = filter (λ h. not (is_numbered p m h)) w.handlers }) c.handlers.invariant.done
          ∙ ap (λ (these : List Handler). record c.args.self.now { handlers = these }) (left_step p c.handlers.at m up hs gaps);
      counted = ap (λ k. k + c.disconnect_on-count.result) c.handlers.invariant.counted
          ∙ ap (λ k. count_by (up_to p c.handlers.at) hs + k) (c.disconnect_on-count.ensures.count ∙ ap (λ (w : Connected). count_by (is_numbered p m) w.handlers) c.handlers.invariant.done)
          ∙ left_count p c.handlers.at m up hs gaps;
      rising = c.last.ensures.rises;
    }

pub returns-clause-count : goal.returns-clause-count
returns-clause-count c =
    let p = is_on c.args.object.0 c.args.program in
    let hs = c.args.self.now.handlers in
    let none = past_left p c.handlers.at hs (subst (λ (w : Connected). AllByRecursion (None_past p c.handlers.at) w.handlers) c.handlers.invariant.done (rw c.in_default.is at c.next_on.ensures)) in
    c.handlers.invariant.counted ∙ counted_all p c.handlers.at hs none

pub returns-clause-left : goal.returns-clause-left
returns-clause-left c =
    let p = is_on c.args.object.0 c.args.program in
    let hs = c.args.self.now.handlers in
    let none = past_left p c.handlers.at hs (subst (λ (w : Connected). AllByRecursion (None_past p c.handlers.at) w.handlers) c.handlers.invariant.done (rw c.in_default.is at c.next_on.ensures)) in
    c.handlers.invariant.done ∙ ap (λ (these : List Handler). record c.args.self.now { handlers = these }) (left_all p c.handlers.at hs none)
