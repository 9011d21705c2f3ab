use Rattle.std.proofs.Common.{◌≡◌, ◌<◌, ◌+◌, ◌∙◌, ap, drop, map, length, arith}
use Rattle.verify_sketches.specs.View.{block_view, channel_view, sketch_view, start_view}
use Rattle.verify_numbers.specs.Columns.{with_node, with_nodes}
use Rattle.verify_numbers.specs.Laid.{numbered}
use Rattle.verify_numbers.proofs.Lists.{from_end, from_entry}
use Rattle.verify_numbers.proofs.Rows.{all_laid, lays}
use Rattle.verify_sketches.specs.Numbered.{group_node}
use Rattle.verify_numbers.specs.Counts.{at_in}
use Rattle.verify_numbers.proofs.program_nodes.add_groups.Goals as goal

pub loop-number-preserved : goal.loop-number-preserved
loop-number-preserved c =
    let n = c.loop-number.number in
    let xs = map (λ v. v.items) c.as_slice-groups.result.now in
    let f = group_node (sketch_view c.args.sketch.now) (at_in (sketch_view c.args.sketch.now)) in
    let x = c.index-groups-number.result in
    let within : n < length c.as_slice-groups.result.now = omega (arith, c.loop-number-test.true) in
    lays c.loop-number.nodes c.add_group.new.nodes f n (drop n xs) (drop (n + 1) xs) (x.items) (with_nodes c.args.nodes.now (numbered f 0 xs))
    (c.in_ok-add_group.ensures ∙ ap (λ ys. with_node c.loop-number.nodes (f n ys)) c.as_slice.ensures.value) (from_entry (λ v. v.items) c.as_slice-groups.result.now n x within c.index-groups-number.is) c.loop-number.invariant

pub returns : goal.returns
returns c =
    let xs = map (λ v. v.items) c.as_slice-groups.result.now in
    let f = group_node (sketch_view c.args.sketch.now) (at_in (sketch_view c.args.sketch.now)) in
    all_laid c.loop-number.nodes f c.loop-number.number (drop c.loop-number.number xs) (with_nodes c.args.nodes.now (numbered f 0 xs))
    (from_end (λ v. v.items) c.as_slice-groups.result.now c.loop-number.number c.loop-number-test.false) c.loop-number.invariant
    ∙ ap (λ ys. with_nodes c.args.nodes.now (numbered f 0 (map (λ v. v.items) ys))) c.as_slice-groups.ensures.value
