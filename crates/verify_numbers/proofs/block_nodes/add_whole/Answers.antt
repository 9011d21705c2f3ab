use Rattle.std.proofs.Common.{◌≡◌, ◌∙◌, sym, ap, ◌-◌, ◌∷◌, [], false, length, drop, subst, ◌≤◌, arith}
use Rattle.verify_sketches.specs.Numbered.{block_node, next, passes, starts_of, sum_of}
use Rattle.verify_sketches.specs.View.{block_view, sketch_view}
use Rattle.verify_numbers.specs.Counts.{Counts, at, at_in}
use Rattle.verify_numbers.proofs.Edges.{added_there, built, then_linked, there_is}
use Rattle.law_typing.specs.Graph.Costs.{only_last}
use Rattle.verify_numbers.proofs.Lists.{last_is}
use Rattle.verify_numbers.proofs.Small.{few, next_fits, passes_fits}
use Rattle.verify_numbers.proofs.block_nodes.add_whole.Goals as goal

pub link-requires-clause-fits : goal.link-requires-clause-fits
link-requires-clause-fits c =
    subst (λ n. n ≤ 4_294_967_295) (sym c.passes.ensures)
    (passes_fits c.args.layout.now (few c.args.layout.now (sketch_view c.args.sketch.now) c.requires.counted c.requires.small) c.args.program c.args.number (omega (arith, c.requires.few)))

pub link-requires-2-clause-node : goal.link-requires-2-clause-node
link-requires-2-clause-node c =
    there_is c.add.new.self c.link.new.self (c.passes.result ∷ []) c.in_ok-link.ensures
    (added_there c.args.nodes.now c.add.new.self c.sum_of.result c.greatest_of.result false c.in_ok-add.ensures)

pub link-requires-2-clause-fits : goal.link-requires-2-clause-fits
link-requires-2-clause-fits c =
    subst (λ n. n ≤ 4_294_967_295) (sym c.next.ensures)
    (next_fits c.args.layout.now (few c.args.layout.now (sketch_view c.args.sketch.now) c.requires.counted c.requires.small) c.args.program c.args.number (omega (arith, c.requires.few)))

pub link_starts-requires-clause-node : goal.link_starts-requires-clause-node
link_starts-requires-clause-node c =
    there_is c.link.new.self c.link-2.new.self (c.next.result ∷ []) c.in_ok-link-2.ensures
    (there_is c.add.new.self c.link.new.self (c.passes.result ∷ []) c.in_ok-link.ensures
    (added_there c.args.nodes.now c.add.new.self c.sum_of.result c.greatest_of.result false c.in_ok-add.ensures))

pub returns : goal.returns
returns c =
    let s = sketch_view c.args.sketch.now in
    let b = block_view c.args.block.now in
    let p = c.args.program in
    let n = c.args.number in
    let y = block_node s (at_in s) p n b in
    let last = c.only_last-last.result.now in
    let is_last : last ≡ only_last b.starts = c.only_last-last.ensures ∙ (ap (λ xs. drop (length xs - 1) xs) c.as_slice.ensures.value ∙ last_is b.starts) in
    let ss = starts_of s (at_in s) last in
    let two = then_linked c.add.new.self c.link.new.self c.link-2.new.self (c.passes.result ∷ []) (c.next.result ∷ []) c.in_ok-link.ensures c.in_ok-link-2.ensures in
    let all = then_linked c.add.new.self c.link-2.new.self c.link_starts.new.nodes (c.passes.result ∷ c.next.result ∷ []) ss two c.in_ok-link_starts.ensures in
    let at_passes = c.passes.ensures ∙ ap (λ (x : Counts). at x (passes p n)) c.requires.counted in
    let at_next = c.next.ensures ∙ ap (λ (x : Counts). at x (next p n)) c.requires.counted in
    built c.args.nodes.now c.add.new.self c.link_starts.new.nodes y c.sum_of.result c.greatest_of.result (c.passes.result ∷ c.next.result ∷ ss)
    c.in_ok-add.ensures (c.sum_of.ensures ∙ ap (λ xs. sum_of 1 (length xs)) is_last) c.greatest_of.ensures all
    (ap (λ x. x ∷ c.next.result ∷ ss) at_passes
    ∙ (ap (λ x. at_in s (passes p n) ∷ x ∷ ss) at_next ∙ ap (λ xs. at_in s (passes p n) ∷ at_in s (next p n) ∷ starts_of s (at_in s) xs) is_last))
