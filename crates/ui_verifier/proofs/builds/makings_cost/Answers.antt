use Rattle.std.proofs.Common.{◌≡◌, ◌∙◌, sym, ap, ℕ, ◌<◌, ◌≤◌, ◌+◌, drop, length, arith}
use Rattle.ui_machine.specs.Seq.{total}
use Rattle.ui_machine.specs.Definition.{Definition}
use Rattle.law_typing.specs.Graph.{built_objects}
use Rattle.law_typing.specs.Laws.Capped.{capped}
use Rattle.ui_verifier.specs.ByChannel.{makings_cost, making_cost_at}
use Rattle.ui_verifier.proofs.BuiltPlaces.{next_cost, no_cost}
use Rattle.ui_verifier.proofs.Sums.{capped_twice, sum_ends, sum_goes_on}
use Rattle.ui_verifier.proofs.builds.makings_cost.Goals as goal

pub loop-number-preserved : goal.loop-number-preserved
loop-number-preserved c =
    let d = c.args.lookups.now in
    let n = c.loop-number.number in
    let e = ap (λ (x : Definition). length x.places) c.definition.ensures in
    let within : n < length d.places = omega (arith, e, c.place_count-number-end.ensures.count, c.loop-number-test.true) in
    record {
      within = ap capped c.capped_sum-sum.ensures ∙ (capped_twice (c.loop-number.sum + c.in_ok-cost.cost) ∙ sym c.capped_sum-sum.ensures);
      so_far = λ f gives.
          sum_goes_on c.loop-number.sum c.in_ok-cost.cost c.capped_sum-sum.result (total (total f) (built_objects d (n + 1) (drop (n + 1) d.places))) (making_cost_at d f n)
          (capped (makings_cost d f)) c.capped_sum-sum.ensures (c.in_ok-cost.ensures f gives)
          (ap (λ m. capped (c.loop-number.sum + m)) (sym (next_cost d f n within)) ∙ c.loop-number.invariant.so_far f gives);
    }

pub returns : goal.returns
returns c = λ f gives.
    let d = c.args.lookups.now in
    let counted = ap (λ (x : Definition). length x.places) c.definition.ensures in
    let behind : length d.places ≤ c.loop-number.number = omega (arith, counted, c.place_count-number-end.ensures.count, c.loop-number-test.false) in
    sum_ends c.loop-number.sum (capped (makings_cost d f)) c.loop-number.invariant.within
    (ap (λ m. capped (c.loop-number.sum + m)) (sym (no_cost d f c.loop-number.number behind)) ∙ c.loop-number.invariant.so_far f gives)
