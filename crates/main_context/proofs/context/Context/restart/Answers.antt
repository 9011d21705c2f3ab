use Rattle.std.proofs.Common.{◌≡◌, None, Some, subst, sym, ap, ◌∙◌, rules}
use Rattle.ui_machine.specs.Rules.MainLoop.{rescheduled}
use Rattle.main_context.specs.Attached.{IsKept}
use Rattle.main_context.specs.Order.{RisesFrom}
use Rattle.main_context.specs.Places.{IsAscending, ranked, timeout_rank, with_any, without_place}
use Rattle.main_context.proofs.Kept.{kept_again, moves, stays, timeout_place}
use Rattle.main_context.proofs.Order.{in_order_again}
use Rattle.main_context.proofs.Ranked.{places_ascend}
use Rattle.main_context.proofs.context.Context.restart.Goals as goal

pub invariant_of-self : goal.invariant_of-self
invariant_of-self c =
    let inside = c.self.inside in
    let none : timeout_place inside.moment c.args.number inside.sources.items ≡ None =
    sym (c.timeout_place-before.ensures ∙ ap (timeout_place inside.moment c.args.number) c.deref.ensures.value) ∙ c.in_default.is in
    let same = c.self.invariant.by_due ∙ sym (stays inside.moment c.args.number inside.sources.items c.self.invariant.order.rising none) in
    subst (λ l. IsKept l inside.programs.items inside.idles.items inside.timeouts.items inside.last) (sym c.reschedule.ensures)
    (kept_again inside.moment c.args.number inside.sources.items inside.programs.items inside.idles.items inside.timeouts.items inside.timeouts.items inside.last c.self.invariant same)

pub timeout_place-after-requires : goal.timeout_place-after-requires
timeout_place-after-requires c =
    subst (RisesFrom 0) (sym (c.deref-2.ensures.value ∙ c.reschedule.ensures))
    (in_order_again c.self.inside.moment c.args.number c.self.inside.sources.items c.self.inside.last c.self.invariant.order).rising

pub take-requires-clause-ascending : goal.take-requires-clause-ascending
take-requires-clause-ascending c = places_ascend timeout_rank c.self.inside.sources.items c.self.inside.timeouts.items c.self.invariant.by_due

pub take-requires-clause-there : goal.take-requires-clause-there
take-requires-clause-there c =
    let some = sym (subst (λ l. Some c.in-Some.before ≡ timeout_place c.self.inside.moment c.args.number l) c.deref.ensures.value c.in-Some.ensures) in
    (moves c.self.inside.moment c.args.number c.in-Some.before c.self.inside.sources.items c.self.inside.timeouts.items c.self.invariant.order.rising c.self.invariant.by_due some).there

pub add_any-requires-clause-ascending : goal.add_any-requires-clause-ascending
add_any-requires-clause-ascending c =
    let some = sym (subst (λ l. Some c.in-Some.before ≡ timeout_place c.self.inside.moment c.args.number l) c.deref.ensures.value c.in-Some.ensures) in
    subst IsAscending (sym c.take.ensures.left)
    (moves c.self.inside.moment c.args.number c.in-Some.before c.self.inside.sources.items c.self.inside.timeouts.items c.self.invariant.order.rising c.self.invariant.by_due some).left

pub invariant_of-self-2 : goal.invariant_of-self-2
invariant_of-self-2 c =
    let inside = c.self.inside in
    let some = sym (subst (λ l. Some c.in-Some.before ≡ timeout_place inside.moment c.args.number l) c.deref.ensures.value c.in-Some.ensures) in
    let moved = (moves inside.moment c.args.number c.in-Some.before inside.sources.items inside.timeouts.items c.self.invariant.order.rising c.self.invariant.by_due some).moved in
    let after = c.timeout_place-after.ensures ∙ ap (timeout_place inside.moment c.args.number) (c.deref-2.ensures.value ∙ c.reschedule.ensures) in
    let due = c.add_any.ensures ∙ ap (with_any c.timeout_place-after.result) c.take.ensures.left ∙ ap (λ o. with_any o (without_place c.in-Some.before inside.timeouts.items)) after ∙ moved in
    subst (λ l. IsKept l inside.programs.items inside.idles.items c.add_any.new.places.items inside.last) (sym c.reschedule.ensures)
    (kept_again inside.moment c.args.number inside.sources.items inside.programs.items inside.idles.items inside.timeouts.items c.add_any.new.places.items inside.last c.self.invariant due)
