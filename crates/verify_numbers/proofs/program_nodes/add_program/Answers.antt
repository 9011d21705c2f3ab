use Rattle.std.proofs.Common.{◌∙◌, sym, ap, ◌∷◌, [], ◌++◌, false, cond, not, map, length, subst, ◌≤◌, arith}
use Rattle.verify_sketches.specs.Numbered.{block, blocks, first_block, program_node}
use Rattle.verify_sketches.specs.View.{block_view, sketch_view}
use Rattle.verify_numbers.specs.Counts.{Counts, at, at_in}
use Rattle.verify_numbers.proofs.Edges.{added_there, built, then_linked, there_is}
use Rattle.std.specs.Bool.{◌==◌}
use Rattle.verify_numbers.proofs.Lists.{first_is}
use Rattle.verify_numbers.proofs.Small.{block_fits, blocks_fits, few}
use Rattle.verify_numbers.proofs.program_nodes.add_program.Goals as goal

pub link_if-requires-clause-fits : goal.link_if-requires-clause-fits
link_if-requires-clause-fits c = λ there.
    subst (λ n. n ≤ 4_294_967_295) (sym c.block.ensures) (block_fits c.args.layout.now (few c.args.layout.now (sketch_view c.args.sketch.now) c.requires.counted c.requires.small) c.args.number 0 (omega arith))

pub link-requires-clause-node : goal.link-requires-clause-node
link-requires-clause-node c =
    there_is c.add.new.self c.link_if.new.nodes (cond (not c.is_empty.result) (c.block.result ∷ []) []) c.in_ok-link_if.ensures
    (added_there c.args.nodes.now c.add.new.self c.sum_of.result c.greatest_of.result false c.in_ok-add.ensures)

pub link-requires-clause-fits : goal.link-requires-clause-fits
link-requires-clause-fits c =
    subst (λ n. n ≤ 4_294_967_295) (sym c.blocks-2.ensures) (blocks_fits c.args.layout.now (few c.args.layout.now (sketch_view c.args.sketch.now) c.requires.counted c.requires.small) c.args.number c.requires.there)

pub returns : goal.returns
returns c =
    let s = sketch_view c.args.sketch.now in
    let p = c.args.number in
    let bs = c.args.blocks.now in
    let y = program_node (at_in s) p (map block_view bs) in
    let first = cond (not c.is_empty.result) (c.block.result ∷ []) [] in
    let all = then_linked c.add.new.self c.link_if.new.nodes c.link.new.self first (c.blocks-2.result ∷ []) c.in_ok-link_if.ensures c.in_ok-link.ensures in
    let at_block = c.block.ensures ∙ ap (λ (x : Counts). at x (block p 0)) c.requires.counted in
    let at_blocks = c.blocks-2.ensures ∙ ap (λ (x : Counts). at x (blocks p)) c.requires.counted in
    built c.args.nodes.now c.add.new.self c.link.new.self y c.sum_of.result c.greatest_of.result (first ++ c.blocks-2.result ∷ [])
    c.in_ok-add.ensures c.sum_of.ensures c.greatest_of.ensures all
    (ap (λ b. cond (not b) (c.block.result ∷ []) [] ++ c.blocks-2.result ∷ []) c.is_empty.ensures
    ∙ (ap (λ x. cond (not (length bs == 0)) (x ∷ []) [] ++ c.blocks-2.result ∷ []) at_block
    ∙ (ap (λ xs. xs ++ c.blocks-2.result ∷ []) (first_is (at_in s) p block_view bs)
    ∙ ap (λ x. first_block (at_in s) p (length (map block_view bs)) ++ x ∷ []) at_blocks)))
