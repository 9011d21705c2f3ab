use Rattle.std.proofs.Common.{◌<◌, ◌+◌, ◌∙◌, ap, drop, map, length, ◌≤◌, sym, subst, List, arith}
use Rattle.verify_sketches.specs.View.{block_view, sketch_view}
use Rattle.verify_numbers.specs.Columns.{with_node, with_nodes}
use Rattle.verify_numbers.specs.Laid.{numbered}
use Rattle.verify_numbers.proofs.Lists.{from_end, from_entry, mapped_length}
use Rattle.verify_numbers.proofs.Rows.{all_laid, lays}
use Rattle.verify_numbers.specs.Laid.{program_part_node}
use Rattle.std.specs.List.{AllByRecursion}
use Rattle.verify_sketches.specs.Sketches.{SketchedBlock}
use Rattle.verify_numbers.proofs.Small.{at_entry}
use Rattle.verify_numbers.proofs.program_nodes.add_programs.Goals as goal

pub add_program_part-requires-clause-few : goal.add_program_part-requires-clause-few
add_program_part-requires-clause-few c =
    let x = c.index-programs-number.result in
    let raw = c.as_slice-programs.result.now in
    let all = subst (λ ps. AllByRecursion (λ (bs : List SketchedBlock). length bs ≤ 64) (map (λ v. map block_view v.items) ps)) (sym c.as_slice-programs.ensures.value)
    c.requires.small.blocks in
    let few = at_entry (λ (bs : List SketchedBlock). length bs ≤ 64) (λ v. map block_view v.items) raw c.loop-number.number x all
    (omega (arith, c.loop-number-test.true)) c.index-programs-number.is in
    let m = mapped_length block_view x.items in
    let e = ap (λ xs. length xs) c.as_slice.ensures.value in
    omega (arith, few, m, e)

pub loop-number-preserved : goal.loop-number-preserved
loop-number-preserved c =
    let n = c.loop-number.number in
    let xs = map (λ v. map block_view v.items) c.as_slice-programs.result.now in
    let f = program_part_node (sketch_view c.args.sketch.now) c.args.part in
    let x = c.index-programs-number.result in
    let within : n < length c.as_slice-programs.result.now = omega (arith, c.loop-number-test.true) in
    lays c.loop-number.nodes c.add_program_part.new.nodes f n (drop n xs) (drop (n + 1) xs) (map block_view x.items) (with_nodes c.args.nodes.now (numbered f 0 xs))
    (c.in_ok-add_program_part.ensures ∙ ap (λ ys. with_node c.loop-number.nodes (f n (map block_view ys))) c.as_slice.ensures.value) (from_entry (λ v. map block_view v.items) c.as_slice-programs.result.now n x within c.index-programs-number.is) c.loop-number.invariant

pub returns : goal.returns
returns c =
    let xs = map (λ v. map block_view v.items) c.as_slice-programs.result.now in
    let f = program_part_node (sketch_view c.args.sketch.now) c.args.part in
    all_laid c.loop-number.nodes f c.loop-number.number (drop c.loop-number.number xs) (with_nodes c.args.nodes.now (numbered f 0 xs))
    (from_end (λ v. map block_view v.items) c.as_slice-programs.result.now c.loop-number.number c.loop-number-test.false) c.loop-number.invariant
    ∙ ap (λ ys. with_nodes c.args.nodes.now (numbered f 0 (map (λ v. map block_view v.items) ys))) c.as_slice-programs.ensures.value
