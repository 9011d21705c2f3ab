use Rattle.std.proofs.Common.{◌<◌, ◌+◌, ◌∙◌, sym, ap, drop, map, length, ◌≤◌, arith}
use Rattle.verify_sketches.specs.View.{block_view, sketch_view}
use Rattle.verify_numbers.specs.Columns.{with_node, with_nodes}
use Rattle.verify_numbers.specs.Laid.{numbered}
use Rattle.verify_numbers.proofs.Lists.{from_end, from_entry, mapped_length}
use Rattle.verify_numbers.proofs.Rows.{all_laid, lays}
use Rattle.verify_numbers.specs.Laid.{block_part_node}
use Rattle.verify_sketches.specs.Sketches.{SketchedBlock}
use Rattle.verify_numbers.proofs.Small.{at_entry}
use Rattle.verify_numbers.proofs.block_nodes.add_parts.Goals as goal

pub add_part-requires-clause-short : goal.add_part-requires-clause-short
add_part-requires-clause-short c =
    at_entry (λ (b : SketchedBlock). length b.starts ≤ 512) block_view c.args.blocks.now c.loop-number.number c.index-blocks-number.result c.requires.short
    (omega (arith, c.loop-number-test.true)) c.index-blocks-number.is

pub loop-number-preserved : goal.loop-number-preserved
loop-number-preserved c =
    let n = c.loop-number.number in
    let xs = map (block_view) c.args.blocks.now in
    let f = block_part_node (sketch_view c.args.sketch.now) c.args.part c.args.program (length (map block_view c.args.blocks.now)) in
    let x = c.index-blocks-number.result in
    let within : n < length c.args.blocks.now = omega (arith, c.loop-number-test.true) in
    lays c.loop-number.nodes c.add_part.new.nodes f n (drop n xs) (drop (n + 1) xs) (block_view x) (with_nodes c.args.nodes.now (numbered f 0 xs))
    (c.in_ok-add_part.ensures ∙ ap (λ m. with_node c.loop-number.nodes (block_part_node (sketch_view c.args.sketch.now) c.args.part c.args.program m n (block_view x))) (sym (mapped_length block_view c.args.blocks.now))) (from_entry (block_view) c.args.blocks.now n x within c.index-blocks-number.is) c.loop-number.invariant

pub returns : goal.returns
returns c =
    let xs = map (block_view) c.args.blocks.now in
    let f = block_part_node (sketch_view c.args.sketch.now) c.args.part c.args.program (length (map block_view c.args.blocks.now)) in
    all_laid c.loop-number.nodes f c.loop-number.number (drop c.loop-number.number xs) (with_nodes c.args.nodes.now (numbered f 0 xs))
    (from_end (block_view) c.args.blocks.now c.loop-number.number c.loop-number-test.false) c.loop-number.invariant
