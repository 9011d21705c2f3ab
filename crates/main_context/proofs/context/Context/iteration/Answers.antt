use Rattle.std.proofs.Common.{◌&&◌, List, length, arith, ap, subst, sym, ◌∙◌}
use Rattle.std.proofs.lemmas.List.{length-map}
use Rattle.ui_machine.specs.Rules.MainLoop.{is_foremost, is_ready, ready}
use Rattle.ui_machine.specs.State.Sources.{Source}
use Rattle.main_context.specs.Order.{RisesFrom}
use Rattle.main_context.specs.Places.{idle_rank, ranked, timeout_rank}
use Rattle.main_context.proofs.First.{few_filtered}
use Rattle.main_context.proofs.context.Context.iteration.Goals as goal

pub returns-clause-few : goal.returns-clause-few
returns-clause-few c =
    let sources = c.deref.result.now in
    let moment = c.args.moment in
    omega (
      arith,
      ap (λ ns. length ns) c.in_ok-batch.ensures,
      length-map (ready moment sources) (λ (s : Source). s.number),
      few_filtered (λ (s : Source). is_ready moment s && is_foremost moment sources s) sources,
      ap (λ (xs : List Source). length xs) c.deref.ensures.value,
      c.self.invariant.order.few,
    )

pub ready-requires-clause-rising : goal.ready-requires-clause-rising
ready-requires-clause-rising c = subst (RisesFrom 0) (sym c.deref.ensures.value) c.self.invariant.order.rising

pub ready-requires-clause-by_priority : goal.ready-requires-clause-by_priority
ready-requires-clause-by_priority c = c.deref-2.ensures.value ∙ c.self.invariant.by_priority ∙ ap (ranked idle_rank) (sym c.deref.ensures.value)

pub ready-requires-clause-by_due : goal.ready-requires-clause-by_due
ready-requires-clause-by_due c = c.deref-3.ensures.value ∙ c.self.invariant.by_due ∙ ap (ranked timeout_rank) (sym c.deref.ensures.value)
