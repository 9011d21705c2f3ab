use Rattle.std.proofs.Common.{◌≡◌, ◌∙◌, ap, ◌*◌, ◌-◌, length, take}
use Rattle.verify_sketches.specs.Numbered.{passes_node, starts_of, sum_of}
use Rattle.verify_sketches.specs.View.{block_view, sketch_view}
use Rattle.verify_numbers.specs.Counts.{at_in}
use Rattle.verify_numbers.proofs.Edges.{built}
use Rattle.law_typing.specs.Graph.Costs.{before_last}
use Rattle.verify_numbers.proofs.Lists.{before_is}
use Rattle.verify_numbers.proofs.block_nodes.add_passes.Goals as goal

pub returns : goal.returns
returns c =
    let s = sketch_view c.args.sketch.now in
    let b = block_view c.args.block.now in
    let y = passes_node s (at_in s) c.args.program c.args.number b in
    let starts = c.before_last-starts.result.now in
    let are : starts ≡ before_last b.starts = c.before_last-starts.ensures ∙ (ap (λ xs. take (length xs - 1) xs) c.as_slice.ensures.value ∙ before_is b.starts) in
    built c.args.nodes.now c.add.new.self c.link_starts.new.nodes y c.sum_of.result c.greatest_of.result (starts_of s (at_in s) starts)
    c.in_ok-add.ensures
    (c.sum_of.ensures ∙ (ap (sum_of b.passes) (ap (λ m. m * length starts) c.from.ensures)
    ∙ ap (λ xs. sum_of b.passes (b.passes * length xs)) are))
    c.greatest_of.ensures c.in_ok-link_starts.ensures (ap (starts_of s (at_in s)) are)
