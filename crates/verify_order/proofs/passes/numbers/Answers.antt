use Rattle.std.proofs.Common.{◌∙◌, sym, ap, subst, length, slice_index_or, arith}
use Rattle.std.proofs.lemmas.Option.{slice_get-get_or}
use Rattle.verify_order.specs.Numbers.{LeadInside, number_by, of_node}
use Rattle.verify_order.proofs.Passing.{all_passed, leads_inside, passes}
use Rattle.verify_order.proofs.passes.numbers.Goals as goal

pub number_of-requires-clause-inside : goal.number_of-requires-clause-inside
number_of-requires-clause-inside c =
    let order = c.args.order.now in
    let place = c.loop-place.place in
    subst (LeadInside c.edges-nodes.result.now) (sym c.as_slice.ensures.value)
    (leads_inside c.args.dependencies.now order c.loop-place.values.items place (slice_index_or order place 0) c.edges-nodes.result.now c.requires.order
    c.loop-place.invariant.count (slice_get-get_or order place 0 c.loop-place-test.true) c.edges-nodes.ensures)

pub index_mut-requires : goal.index_mut-requires
index_mut-requires c =
    let order = c.args.order.now in
    let place = c.loop-place.place in
    let inside = c.requires.order.inside place (slice_index_or order place 0) (slice_get-get_or order place 0 c.loop-place-test.true) in
    let e = ap (λ xs. length xs) c.as_slice.ensures.value in
    omega (arith, inside, c.loop-place.invariant.count, e, c.as_slice.ensures.len)

pub loop-place-preserved : goal.loop-place-preserved
loop-place-preserved c =
    let order = c.args.order.now in
    let place = c.loop-place.place in
    let node = slice_index_or order place 0 in
    let here = slice_get-get_or order place 0 c.loop-place-test.true in
    passes c.args.rules.now c.args.most c.args.dependencies.now order c.loop-place.values.items place node c.number_of.result c.rule_of-rule.result
    c.edges-nodes.result.now c.requires.order c.loop-place.invariant here c.rule_of-rule.ensures c.edges-nodes.ensures (c.requires.order.inside place node here)
    (c.number_of.ensures ∙ ap (λ vs. number_by c.rule_of-rule.result c.args.most (of_node vs) c.edges-nodes.result.now) c.as_slice.ensures.value)

pub returns : goal.returns
returns c =
    all_passed c.args.rules.now c.args.most c.args.dependencies.now c.args.order.now c.loop-place.values.items c.loop-place.place c.requires.order
    c.loop-place.invariant c.loop-place-test.false
