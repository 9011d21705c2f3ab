use Rattle.std.proofs.Common.{subst, sym, ap, ◌∙◌, arith, take}
use Rattle.main_context.specs.Places.{IsAscending, by_priority, with_any}
use Rattle.main_context.proofs.Turns.{by_priority_ascends, by_priority_take}
use Rattle.main_context.proofs.batch.by_priority.Goals as goal

pub add_any-requires-clause-ascending : goal.add_any-requires-clause-ascending
add_any-requires-clause-ascending c =
    subst IsAscending (sym (c.reserve.ensures.items ∙ c.loop-place.invariant)) (by_priority_ascends c.args.sources.now (take c.loop-place.place-index c.args.places.now))

pub loop-place-preserved : goal.loop-place-preserved
loop-place-preserved c =
    c.add_any.ensures ∙ ap (with_any c.priority_place.result) (c.reserve.ensures.items ∙ c.loop-place.invariant)
    ∙ ap (λ o. with_any o (by_priority c.args.sources.now (take c.loop-place.place-index c.args.places.now))) c.priority_place.ensures
    ∙ sym (by_priority_take c.args.sources.now c.args.places.now c.loop-place.place-index _ (omega arith))
