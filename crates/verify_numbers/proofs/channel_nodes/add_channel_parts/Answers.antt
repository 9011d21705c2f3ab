use Rattle.std.proofs.Common.{◌≡◌, ◌<◌, ◌+◌, ◌∙◌, ap, drop, map, length, subst, Some, slice_get, arith}
use Rattle.verify_sketches.specs.View.{channel_view, sketch_view}
use Rattle.verify_numbers.specs.Columns.{with_nodes}
use Rattle.verify_numbers.specs.Laid.{numbered}
use Rattle.verify_numbers.proofs.Lists.{from_end, from_entry}
use Rattle.verify_numbers.proofs.Rows.{all_laid, lays}
use Rattle.verify_numbers.specs.Laid.{channel_node}
use Rattle.verify_numbers.specs.Counts.{Counts}
use Rattle.verify_numbers.proofs.Small.{other_end_low, seen_at}
use Rattle.verify_numbers.proofs.channel_nodes.add_channel_parts.Goals as goal

pub add_part-requires-clause-other : goal.add_part-requires-clause-other
add_part-requires-clause-other c =
    let n = c.loop-number.number in
    let x = c.index-channels-number.result in
    let s = sketch_view c.args.sketch.now in
    let here = seen_at channel_view c.as_slice-channels.result.now n x (omega (arith, c.loop-number-test.true)) c.index-channels-number.is in
    other_end_low s n c.args.layout.now.channels (channel_view x) c.requires.ends
    (subst (λ xs. slice_get (map channel_view xs) n ≡ Some (channel_view x)) c.as_slice-channels.ensures.value here)
    (ap (λ (k : Counts). k.channels) c.requires.counted)

pub loop-number-preserved : goal.loop-number-preserved
loop-number-preserved c =
    let n = c.loop-number.number in
    let xs = map (channel_view) c.as_slice-channels.result.now in
    let f = channel_node (sketch_view c.args.sketch.now) c.args.handlers c.args.part in
    let x = c.index-channels-number.result in
    let within : n < length c.as_slice-channels.result.now = omega (arith, c.loop-number-test.true) in
    lays c.loop-number.nodes c.add_part.new.nodes f n (drop n xs) (drop (n + 1) xs) (channel_view x) (with_nodes c.args.nodes.now (numbered f 0 xs))
    (c.in_ok-add_part.ensures) (from_entry (channel_view) c.as_slice-channels.result.now n x within c.index-channels-number.is) c.loop-number.invariant

pub returns : goal.returns
returns c =
    let xs = map (channel_view) c.as_slice-channels.result.now in
    let f = channel_node (sketch_view c.args.sketch.now) c.args.handlers c.args.part in
    all_laid c.loop-number.nodes f c.loop-number.number (drop c.loop-number.number xs) (with_nodes c.args.nodes.now (numbered f 0 xs))
    (from_end (channel_view) c.as_slice-channels.result.now c.loop-number.number c.loop-number-test.false) c.loop-number.invariant
    ∙ ap (λ ys. with_nodes c.args.nodes.now (numbered f 0 (map (channel_view) ys))) c.as_slice-channels.ensures.value
