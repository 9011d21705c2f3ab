use Rattle.std.proofs.Common.{◌∙◌, sym, ap, subst, ℕ, ◌<◌, List, length, slice_index_or, arith}
use Rattle.verify_order.specs.Answers.{Sorts}
use Rattle.verify_order.specs.Graphs.{Graph, IsCycle, IsGraph, IsOrder}
use Rattle.verify_sketches.specs.View.{sketch_view}
use Rattle.verify_sketches.specs.Numbered.{Node}
use Rattle.verify_numbers.specs.Columns.{Columns}
use Rattle.verify_numbers.specs.Counts.{Counts}
use Rattle.verify_numbers.specs.Laid.{laid}
use Rattle.verify_numbers.specs.Links.{ComesOfCycle}
use Rattle.verify_numbers.proofs.Lists.{mapped_length}
use Rattle.verify_numbers.proofs.ReckonedGraphs.{cycle_is_told, few_columns, has_channel, have_few, is_graph, name_few, numbers_are}
use Rattle.verify_numbers.proofs.Rows.{columns_of, laid_columns}
use Rattle.verify_numbers.proofs.Small.{ends_are_there}
use Rattle.verify_numbers.proofs.reckonings.reckon.Goals as goal

pub nodes_of-requires-clause-ends : goal.nodes_of-requires-clause-ends
nodes_of-requires-clause-ends c = ends_are_there c.requires.sketched.0 (sketch_view c.args.sketch.now) c.requires.sketched.1

pub sort-requires : goal.sort-requires
sort-requires c =
    let s = sketch_view c.args.sketch.now in
    let e = c.nodes.view_is ∙ (c.in_ok-nodes.ensures ∙ laid_columns (laid s c.args.handlers)) in
    subst IsGraph (sym (ap (λ (x : Columns). x.graph) e)) (is_graph c.requires.sketched.0 s c.args.handlers c.requires.sketched.1)

pub numbers_of-requires-clause-costs : goal.numbers_of-requires-clause-costs
numbers_of-requires-clause-costs c =
    let ys = laid (sketch_view c.args.sketch.now) c.args.handlers in
    let e = c.in_ok-nodes.ensures ∙ laid_columns ys in
    ap (λ (x : Columns). length x.costs) e
    ∙ (mapped_length (λ (y : Node). y.cost) ys ∙ (sym (mapped_length (λ (y : Node). y.edges) ys) ∙ sym (ap (λ (x : Columns). length x.graph) e)))

pub numbers_of-requires-clause-depths : goal.numbers_of-requires-clause-depths
numbers_of-requires-clause-depths c =
    let ys = laid (sketch_view c.args.sketch.now) c.args.handlers in
    let e = c.in_ok-nodes.ensures ∙ laid_columns ys in
    ap (λ (x : Columns). length x.depths) e
    ∙ (mapped_length (λ (y : Node). y.depth) ys ∙ (sym (mapped_length (λ (y : Node). y.edges) ys) ∙ sym (ap (λ (x : Columns). length x.graph) e)))

pub numbers_of-requires-clause-counts : goal.numbers_of-requires-clause-counts
numbers_of-requires-clause-counts c =
    let ys = laid (sketch_view c.args.sketch.now) c.args.handlers in
    let e = c.in_ok-nodes.ensures ∙ laid_columns ys in
    ap (λ (x : Columns). length x.counts) e
    ∙ (mapped_length (λ (y : Node). y.counts) ys ∙ (sym (mapped_length (λ (y : Node). y.edges) ys) ∙ sym (ap (λ (x : Columns). length x.graph) e)))

pub numbers_of-requires-clause-order : goal.numbers_of-requires-clause-order
numbers_of-requires-clause-order c =
    let sorted = subst (λ x. Sorts c.nodes.inside.dependencies x) c.in-Order.is c.in_ok-order.ensures in
    let graph = ap (λ (x : Columns). x.graph) c.nodes.view_is in
    subst (λ (o : List ℕ). IsOrder c.in_ok-nodes.nodes.graph o) (sym c.as_slice.ensures.value) (subst (λ (g : Graph). IsOrder g c.in-Order.order.items) graph sorted)

pub returns-in-Order-clause-few : goal.returns-in-Order-clause-few
returns-in-Order-clause-few c =
    let s = sketch_view c.args.sketch.now in
    have_few c.in_ok-nodes.nodes c.in_ok-numbers-in-Order.numbers
    (few_columns s c.args.handlers c.in_ok-nodes.nodes (c.in_ok-nodes.ensures ∙ laid_columns (laid s c.args.handlers)) c.requires.small)
    c.in_ok-numbers-in-Order.ensures.reckoned c.in_ok-numbers-in-Order.ensures.few

pub returns-in-Order-clause-reckoned : goal.returns-in-Order-clause-reckoned
returns-in-Order-clause-reckoned c = λ g sketch same.
    let s = sketch_view c.args.sketch.now in
    let sorted = subst (λ x. Sorts c.nodes.inside.dependencies x) c.in-Order.is c.in_ok-order.ensures in
    let graph = ap (λ (x : Columns). x.graph) c.nodes.view_is in
    let order = subst (λ (g : Graph). IsOrder g c.in-Order.order.items) graph sorted in
    let e = c.in_ok-nodes.ensures ∙ (laid_columns (laid s c.args.handlers) ∙ ap (λ h. columns_of (laid s h)) (sym same)) in
    numbers_are g s sketch c.in_ok-nodes.nodes c.in-Order.order.items c.in_ok-numbers-in-Order.numbers e order c.in_ok-numbers-in-Order.ensures.reckoned
    (let few = few_columns s c.args.handlers c.in_ok-nodes.nodes (c.in_ok-nodes.ensures ∙ laid_columns (laid s c.args.handlers)) c.requires.small in omega (arith, few))

pub reckon_cycle-requires : goal.reckon_cycle-requires
reckon_cycle-requires c =
    let s = sketch_view c.args.sketch.now in
    let sorted = subst (λ x. Sorts c.nodes.inside.dependencies x) c.in-Cycle.is c.in_ok-order.ensures in
    let e = c.nodes.view_is ∙ (c.in_ok-nodes.ensures ∙ laid_columns (laid s c.args.handlers)) in
    let cycle = subst (λ (g : Graph). IsCycle g c.in-Cycle.cycle.items) (ap (λ (x : Columns). x.graph) e) sorted in
    let h = has_channel c.requires.sketched.0 s c.args.handlers c.requires.sketched.1 c.in-Cycle.cycle.items cycle in
    let n = ap (λ (x : Counts). x.channels) c.requires.counted in
    let v = c.as_slice-in-Cycle.ensures.value in
    record {
      channel = (
        h.0,
        subst (λ (xs : List ℕ). h.0 < length xs) (sym v) h.1,
        subst (λ (xs : List ℕ). slice_index_or xs h.0 0 < c.args.layout.now.channels) (sym v) (let l = h.2 in omega (arith, l, n)),
      );
    }

pub returns-clause-few : goal.returns-clause-few
returns-clause-few c =
    name_few c.args.layout.now.programs c.in_ok-links-in-Cycle.links.items
    (let e = ap (λ (x : Counts). x.programs) c.requires.counted in let n = c.requires.small.programs in omega (arith, e, n))
    c.in_ok-links-in-Cycle.ensures.few

pub returns-clause-reckoned : goal.returns-clause-reckoned
returns-clause-reckoned c = λ g sketch same.
    let s = sketch_view c.args.sketch.now in
    let sorted = subst (λ x. Sorts c.nodes.inside.dependencies x) c.in-Cycle.is c.in_ok-order.ensures in
    let e = c.nodes.view_is ∙ (c.in_ok-nodes.ensures ∙ (laid_columns (laid s c.args.handlers) ∙ ap (λ h. columns_of (laid s h)) (sym same))) in
    let cycle = subst (λ (g : Graph). IsCycle g c.in-Cycle.cycle.items) (ap (λ (x : Columns). x.graph) e) sorted in
    let comes = subst (λ (k : Counts). ComesOfCycle k c.in-Cycle.cycle.items c.in_ok-links-in-Cycle.links.items) c.requires.counted
    (subst (λ (xs : List ℕ). ComesOfCycle c.args.layout.now xs c.in_ok-links-in-Cycle.links.items) c.as_slice-in-Cycle.ensures.value c.in_ok-links-in-Cycle.ensures.comes) in
    cycle_is_told g s sketch c.in-Cycle.cycle.items c.in_ok-links-in-Cycle.links.items cycle comes
