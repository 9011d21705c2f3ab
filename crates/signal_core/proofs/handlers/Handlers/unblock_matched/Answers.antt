use Rattle.std.proofs.Common.{◌∙◌, ◌+◌, List, cond, count_by, map, refl, ap, subst, arith}
use Rattle.std.specs.List.{AllByRecursion}
use Rattle.ui_machine.specs.Rules.Connections.{unblocked, is_on}
use Rattle.ui_machine.specs.State.Handlers.{Handler}
use Rattle.signal_core.specs.Connected.{Connected}
use Rattle.signal_core.specs.Kept.{is_numbered}
use Rattle.signal_core.proofs.Keeping.{count_within}
use Rattle.signal_core.proofs.Stepping.{Gap, None_past, changed_all, changed_count, changed_none, changed_step, counted_all, counted_none, past_changed, up_to}
use Rattle.signal_core.proofs.handlers.Handlers.unblock_matched.Goals as goal

pub handlers-init : goal.handlers-init
handlers-init c =
    let p = is_on c.args.object.0 c.args.program in
    let hs = c.args.self.now.handlers in
    record {
      done = ap (λ (these : List Handler). record c.args.self.now { handlers = these }) (changed_none p unblocked hs c.args.self.now.last c.last.ensures.rises);
      counted = counted_none p hs c.args.self.now.last c.last.ensures.rises;
      rising = c.last.ensures.rises;
    }

pub overflow_add-count : goal.overflow_add-count
overflow_add-count c =
    let p = is_on c.args.object.0 c.args.program in
    let hs = c.args.self.now.handlers in
    let m = c.in-Some.number in
    let up = c.in-Some.ensures.0 in
    let gaps = subst (λ (w : Connected). AllByRecursion (Gap p c.handlers.at m) w.handlers) c.handlers.invariant.done c.in-Some.ensures.1 in
    let counted = ap (λ k. k + c.unblock_on-count.result) c.handlers.invariant.counted
    ∙ ap (λ k. count_by (up_to p c.handlers.at) hs + k) (c.unblock_on-count.ensures.count ∙ ap (λ (w : Connected). count_by (is_numbered p m) w.handlers) c.handlers.invariant.done)
    ∙ changed_count p c.handlers.at m up unblocked (λ h. refl) (λ h. refl) hs gaps in
    omega (arith, counted, count_within (up_to p m) 0 hs c.args.self.now.last c.last.ensures.rises, c.last.ensures.number)

pub handlers-preserved : goal.handlers-preserved
handlers-preserved c =
    let p = is_on c.args.object.0 c.args.program in
    let hs = c.args.self.now.handlers in
    let m = c.in-Some.number in
    let up = c.in-Some.ensures.0 in
    let gaps = subst (λ (w : Connected). AllByRecursion (Gap p c.handlers.at m) w.handlers) c.handlers.invariant.done c.in-Some.ensures.1 in
    record {
      done = c.unblock_on-count.ensures.unblocked
          ∙ ap (λ (w : Connected). record w { handlers = map (λ h. cond (is_numbered p m h) (unblocked h) h) w.handlers }) c.handlers.invariant.done
          ∙ ap (λ (these : List Handler). record c.args.self.now { handlers = these }) (changed_step p c.handlers.at m up unblocked (λ h. refl) (λ h. refl) hs gaps);
      counted = ap (λ k. k + c.unblock_on-count.result) c.handlers.invariant.counted
          ∙ ap (λ k. count_by (up_to p c.handlers.at) hs + k) (c.unblock_on-count.ensures.count ∙ ap (λ (w : Connected). count_by (is_numbered p m) w.handlers) c.handlers.invariant.done)
          ∙ changed_count p c.handlers.at m up unblocked (λ h. refl) (λ h. refl) hs gaps;
      rising = c.last.ensures.rises;
    }

pub returns-clause-count : goal.returns-clause-count
returns-clause-count c =
    let p = is_on c.args.object.0 c.args.program in
    let hs = c.args.self.now.handlers in
    let none = past_changed p c.handlers.at hs unblocked (λ h. refl) (λ h. refl) (subst (λ (w : Connected). AllByRecursion (None_past p c.handlers.at) w.handlers) c.handlers.invariant.done (rw c.in_default.is at c.next_on.ensures)) in
    c.handlers.invariant.counted ∙ counted_all p c.handlers.at hs none

pub returns-clause-unblocked : goal.returns-clause-unblocked
returns-clause-unblocked c =
    let p = is_on c.args.object.0 c.args.program in
    let hs = c.args.self.now.handlers in
    let none = past_changed p c.handlers.at hs unblocked (λ h. refl) (λ h. refl) (subst (λ (w : Connected). AllByRecursion (None_past p c.handlers.at) w.handlers) c.handlers.invariant.done (rw c.in_default.is at c.next_on.ensures)) in
    c.handlers.invariant.done ∙ ap (λ (these : List Handler). record c.args.self.now { handlers = these }) (changed_all p c.handlers.at hs none unblocked)
