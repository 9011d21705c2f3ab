use Rattle.std.proofs.Common.{◌≡◌, ◌<◌, ◌+◌, ◌∙◌, ap, drop, map, length, arith}
use Rattle.verify_sketches.specs.View.{block_view, channel_view, sketch_view, start_view}
use Rattle.verify_numbers.specs.Columns.{with_node, with_nodes}
use Rattle.verify_numbers.specs.Laid.{numbered}
use Rattle.verify_numbers.proofs.Lists.{from_end, from_entry}
use Rattle.verify_numbers.proofs.Rows.{all_laid, lays}
use Rattle.verify_sketches.specs.Numbered.{place_node}
use Rattle.verify_numbers.specs.Counts.{at_in}
use Rattle.verify_numbers.proofs.program_nodes.add_places.Goals as goal

pub loop-number-preserved : goal.loop-number-preserved
loop-number-preserved c =
    let n = c.loop-number.number in
    let xs = map (λ v. v.items) c.as_slice-paired.result.now in
    let f = place_node (sketch_view c.args.sketch.now) (at_in (sketch_view c.args.sketch.now)) in
    let x = c.index-paired-number.result in
    let within : n < length c.as_slice-paired.result.now = omega (arith, c.loop-number-test.true) in
    lays c.loop-number.nodes c.add_place.new.nodes f n (drop n xs) (drop (n + 1) xs) (x.items) (with_nodes c.args.nodes.now (numbered f 0 xs))
    (c.in_ok-add_place.ensures ∙ ap (λ ys. with_node c.loop-number.nodes (f n ys)) c.as_slice.ensures.value) (from_entry (λ v. v.items) c.as_slice-paired.result.now n x within c.index-paired-number.is) c.loop-number.invariant

pub returns : goal.returns
returns c =
    let xs = map (λ v. v.items) c.as_slice-paired.result.now in
    let f = place_node (sketch_view c.args.sketch.now) (at_in (sketch_view c.args.sketch.now)) in
    all_laid c.loop-number.nodes f c.loop-number.number (drop c.loop-number.number xs) (with_nodes c.args.nodes.now (numbered f 0 xs))
    (from_end (λ v. v.items) c.as_slice-paired.result.now c.loop-number.number c.loop-number-test.false) c.loop-number.invariant
    ∙ ap (λ ys. with_nodes c.args.nodes.now (numbered f 0 (map (λ v. v.items) ys))) c.as_slice-paired.ensures.value
