use Rattle.std.proofs.Common.{◌≡◌, ◌∙◌, sym, ap, subst, ◌+◌, ◌-◌, ◌<◌, length, slice_index_or, false, arith}
use Rattle.std.proofs.lemmas.Option.{slice_get-get_or}
use Rattle.verify_order.specs.Chains.{handed_on, step}
use Rattle.verify_order.specs.Numbers.{of_node}
use Rattle.verify_order.proofs.Handing.{Handed, all_handed, at_first, few_handed, hands, leads_inside, one_at_most, read_there}
use Rattle.verify_order.proofs.chains.ranks.Goals as goal

pub loop-behind-init : goal.loop-behind-init
loop-behind-init c =
    at_first c.args.counts.now c.args.dependencies.now c.args.order.now c.in_ok-ranks.ranks.items (length c.args.counts.now) c.in_ok-ranks.ensures c.requires.count

pub index-requires : goal.index-requires
index-requires c =
    let order = c.args.order.now in
    let place = length order - 1 - c.loop-behind.behind in
    let within : place < length order = omega (arith, c.loop-behind-test.true) in
    let inside = c.requires.order.inside place (slice_index_or order place 0) (slice_get-get_or order place 0 within) in
    omega (arith, inside, c.loop-behind.invariant.count, c.loop-behind.ranks.ok.0)

pub one_if-requires : goal.one_if-requires
one_if-requires c =
    let order = c.args.order.now in
    let place = length order - 1 - c.loop-behind.behind in
    let within : place < length order = omega (arith, c.loop-behind-test.true) in
    let inside = c.requires.order.inside place (slice_index_or order place 0) (slice_get-get_or order place 0 within) in
    omega (arith, inside, c.requires.count)

pub overflow_add-number : goal.overflow_add-number
overflow_add-number c =
    let order = c.args.order.now in
    let node = slice_index_or order (length order - 1 - c.loop-behind.behind) 0 in
    let within : length order - 1 - c.loop-behind.behind < length order = omega (arith, c.loop-behind-test.true) in
    let inside = c.requires.order.inside (length order - 1 - c.loop-behind.behind) node (slice_get-get_or order (length order - 1 - c.loop-behind.behind) 0 within) in
    let there = read_there c.loop-behind.ranks.items node c.index.result.now (omega (arith, inside, c.loop-behind.invariant.count)) in
    let few = c.loop-behind.invariant.few node in
    let one = one_at_most (slice_index_or c.args.counts.now node false) in
    omega (arith, few, one, there, c.index.ensures, c.one_if.ensures, c.loop-behind-test.true)

pub edges-requires : goal.edges-requires
edges-requires c =
    let order = c.args.order.now in
    let place = length order - 1 - c.loop-behind.behind in
    let within : place < length order = omega (arith, c.loop-behind-test.true) in
    c.requires.order.inside place (slice_index_or order place 0) (slice_get-get_or order place 0 within)

pub hand_on-requires : goal.hand_on-requires
hand_on-requires c =
    let order = c.args.order.now in
    let place = length order - 1 - c.loop-behind.behind in
    let within : place < length order = omega (arith, c.loop-behind-test.true) in
    leads_inside c.args.counts.now c.args.dependencies.now order c.loop-behind.ranks.items c.loop-behind.behind place (slice_index_or order place 0)
    c.edges.result.now c.requires.order c.loop-behind.invariant (slice_get-get_or order place 0 within) c.edges.ensures

pub loop-behind-preserved : goal.loop-behind-preserved
loop-behind-preserved c =
    let counts = c.args.counts.now in
    let order = c.args.order.now in
    let ranks = c.loop-behind.ranks.items in
    let place = length order - 1 - c.loop-behind.behind in
    let node = slice_index_or order place 0 in
    let within : place < length order = omega (arith, c.loop-behind-test.true) in
    let at : place + (c.loop-behind.behind + 1) ≡ length order = omega (arith, c.loop-behind-test.true) in
    let inside = c.requires.order.inside place node (slice_get-get_or order place 0 within) in
    let there : c.index.result.now ≡ of_node ranks node =
    c.index.ensures ∙ read_there ranks node c.index.result.now (omega (arith, inside, c.loop-behind.invariant.count)) in
    let number : c.index.result.now + c.one_if.result ≡ of_node ranks node + step counts node = ap (λ m. m + c.one_if.result) there ∙ ap (λ m. of_node ranks node + m) c.one_if.ensures in
    subst (λ rs. Handed counts c.args.dependencies.now order rs (c.loop-behind.behind + 1))
    (sym (c.hand_on.ensures ∙ ap (λ m. handed_on c.edges.result.now m ranks) number))
    (hands counts c.args.dependencies.now order ranks c.loop-behind.behind place node c.edges.result.now c.requires.order c.loop-behind.invariant at
    (slice_get-get_or order place 0 within) c.edges.ensures)

pub returns-clause-ranked : goal.returns-clause-ranked
returns-clause-ranked c =
    all_handed c.args.counts.now c.args.dependencies.now c.args.order.now c.loop-behind.ranks.items c.loop-behind.behind c.requires.order
    c.loop-behind.invariant c.loop-behind-test.false

pub returns-clause-few : goal.returns-clause-few
returns-clause-few c =
    few_handed c.args.counts.now c.args.dependencies.now c.args.order.now c.loop-behind.ranks.items c.loop-behind.behind c.requires.order
    c.loop-behind.invariant c.loop-behind.auto.behind-end
