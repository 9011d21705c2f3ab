use Rattle.std.proofs.Common.{◌∙◌, map, slice_get, ap, sym, subst, refl, rules, FitsSigned}
use Rattle.std.specs.Int.{w128}
use Rattle.std.proofs.lemmas.Int.{to_z-of_z}
use Rattle.main_context.specs.Places.{IsAscending, all_added, by_priority, idle_rank, least_rank, timeout_rank, up_to}
use Rattle.main_context.specs.declared.places.Place.{Place}
use Rattle.main_context.proofs.Foremost.{turn_none, turn_some}
use Rattle.main_context.proofs.PlaceOrder.{all_added_ascend}
use Rattle.main_context.proofs.Ranked.{places_ascend}
use Rattle.main_context.proofs.Turns.{by_priority_ascends}
use Rattle.main_context.proofs.batch.Batch.ready.Goals as goal

pub up_to-due-requires : goal.up_to-due-requires
up_to-due-requires c = places_ascend timeout_rank c.args.sources.now c.args.timeouts.now c.requires.by_due

pub up_to-requires : goal.up_to-requires
up_to-requires c = places_ascend idle_rank c.args.sources.now c.args.idles.now c.requires.by_priority

pub add_all-requires : goal.add_all-requires
add_all-requires c = subst IsAscending (sym c.in_ok-ready.ensures) (by_priority_ascends c.args.sources.now c.up_to-due.result.now)

pub numbers_up_to-requires : goal.numbers_up_to-requires
numbers_up_to-requires c =
    subst IsAscending (sym (c.deref-in-Some.ensures.value ∙ c.in_ok-add_all.ensures))
    (all_added_ascend c.up_to.result.now c.in_ok-ready.ready.items (subst IsAscending (sym c.in_ok-ready.ensures) (by_priority_ascends c.args.sources.now c.up_to-due.result.now)))

pub returns-in-Some : goal.returns-in-Some
returns-in-Some c =
    let p = c.in-Some.least in
    let sources = c.args.sources.now in
    let idles = c.args.idles.now in
    let timeouts = c.args.timeouts.now in
    let moment : FitsSigned w128 c.from.result = search rules in
    let fits : FitsSigned w128 c.in-Some.least = search rules in
    let cut = simp to_z-of_z at c.up_to-due.ensures in
    let ready = c.in_ok-ready.ensures ∙ ap (by_priority sources) (cut ∙ ap (λ r. up_to r timeouts) c.from.ensures) in
    let idle = simp to_z-of_z at c.up_to.ensures in
    let least = sym (c.in-Some.ensures ∙ ap (λ m. least_rank (slice_get idles 0) (slice_get m 0)) (c.deref.ensures.value ∙ ready)) in
    let numbers = simp to_z-of_z at c.in_ok-numbers.ensures in
    numbers
    ∙ ap (λ m. map (λ (q : Place). q.number) (up_to p m))
    (c.deref-in-Some.ensures.value ∙ c.in_ok-add_all.ensures ∙ ap (λ m. all_added m c.in_ok-ready.ready.items) idle ∙ ap (all_added (up_to p idles)) ready)
    ∙ turn_some c.args.moment sources idles timeouts c.requires.rising c.requires.by_priority c.requires.by_due p least

pub returns : goal.returns
returns c =
    let idles = c.args.idles.now in
    let timeouts = c.args.timeouts.now in
    let moment : FitsSigned w128 c.from.result = search rules in
    let cut = simp to_z-of_z at c.up_to-due.ensures in
    let ready = c.in_ok-ready.ensures ∙ ap (by_priority c.args.sources.now) (cut ∙ ap (λ r. up_to r timeouts) c.from.ensures) in
    let none = sym (c.in_default.ensures ∙ ap (λ m. least_rank (slice_get idles 0) (slice_get m 0)) (c.deref.ensures.value ∙ ready)) in
    rw (c.new.ensures.items, turn_none c.args.moment c.args.sources.now idles timeouts c.requires.rising c.requires.by_priority c.requires.by_due none) refl
