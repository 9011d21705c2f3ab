use Rattle.std.proofs.Common.{◌<◌, ◌+◌, ◌∙◌, ap, sym, drop, map, length, ◌≤◌, subst, List, arith}
use Rattle.verify_sketches.specs.View.{block_view, sketch_view}
use Rattle.verify_numbers.specs.Columns.{with_nodes}
use Rattle.verify_numbers.specs.Laid.{block_nodes_from, nodes_in_program}
use Rattle.verify_numbers.proofs.Lists.{from_end, from_entry, mapped_length}
use Rattle.verify_numbers.proofs.Rows.{lays_program}
use Rattle.std.specs.List.{AllByRecursion}
use Rattle.verify_sketches.specs.Sketches.{SketchedBlock}
use Rattle.verify_numbers.proofs.Small.{at_entry}
use Rattle.verify_numbers.proofs.block_nodes.add_block_parts.Goals as goal

pub add_parts-requires-clause-few : goal.add_parts-requires-clause-few
add_parts-requires-clause-few c =
    let x = c.index-programs-number.result in
    let raw = c.as_slice-programs.result.now in
    let all = subst (λ ps. AllByRecursion (λ (bs : List SketchedBlock). length bs ≤ 64) (map (λ v. map block_view v.items) ps)) (sym c.as_slice-programs.ensures.value)
    c.requires.small.blocks in
    let few = at_entry (λ (bs : List SketchedBlock). length bs ≤ 64) (λ v. map block_view v.items) raw c.loop-number.number x all
    (omega (arith, c.loop-number-test.true)) c.index-programs-number.is in
    let m = mapped_length block_view x.items in
    let e = ap (λ xs. length xs) c.as_slice.ensures.value in
    omega (arith, few, m, e)

pub add_parts-requires-clause-short : goal.add_parts-requires-clause-short
add_parts-requires-clause-short c =
    let x = c.index-programs-number.result in
    let raw = c.as_slice-programs.result.now in
    let all = subst (λ ps. AllByRecursion (λ (bs : List SketchedBlock). AllByRecursion (λ (b : SketchedBlock). length b.starts ≤ 512) bs) (map (λ v. map block_view v.items) ps))
    (sym c.as_slice-programs.ensures.value) c.requires.small.instructions in
    subst (λ xs. AllByRecursion (λ (b : SketchedBlock). length b.starts ≤ 512) (map block_view xs)) (sym c.as_slice.ensures.value)
    (at_entry (λ (bs : List SketchedBlock). AllByRecursion (λ (b : SketchedBlock). length b.starts ≤ 512) bs) (λ v. map block_view v.items) raw c.loop-number.number x all
    (omega (arith, c.loop-number-test.true)) c.index-programs-number.is)

pub loop-number-preserved : goal.loop-number-preserved
loop-number-preserved c =
    let n = c.loop-number.number in
    let s = sketch_view c.args.sketch.now in
    let raw = c.as_slice-programs.result.now in
    let ps = map (λ v. map block_view v.items) raw in
    let x = c.index-programs-number.result in
    let within : n < length raw = omega (arith, c.loop-number-test.true) in
    lays_program s c.args.part c.loop-number.nodes c.add_parts.new.nodes n (drop n ps) (drop (n + 1) ps) (map block_view x.items)
    (with_nodes c.args.nodes.now (block_nodes_from s c.args.part 0 ps))
    (c.in_ok-add_parts.ensures ∙ ap (λ ys. with_nodes c.loop-number.nodes (nodes_in_program s c.args.part n (map block_view ys))) c.as_slice.ensures.value)
    (from_entry (λ v. map block_view v.items) raw n x within c.index-programs-number.is) c.loop-number.invariant

pub returns : goal.returns
returns c =
    let s = sketch_view c.args.sketch.now in
    let raw = c.as_slice-programs.result.now in
    let ps = map (λ v. map block_view v.items) raw in
    ap (λ ys. with_nodes c.loop-number.nodes (block_nodes_from s c.args.part c.loop-number.number ys))
    (sym (from_end (λ v. map block_view v.items) raw c.loop-number.number c.loop-number-test.false))
    ∙ (c.loop-number.invariant
    ∙ ap (λ ys. with_nodes c.args.nodes.now (block_nodes_from s c.args.part 0 (map (λ v. map block_view v.items) ys))) c.as_slice-programs.ensures.value)
