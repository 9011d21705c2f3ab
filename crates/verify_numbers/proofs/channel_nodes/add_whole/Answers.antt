use Rattle.std.proofs.Common.{◌≡◌, ◌∙◌, sym, refl, ap, ◌+◌, ◌*◌, ◌-◌, ◌<◌, ◌∷◌, [], ◌++◌, true, false, cond, not, map, length, take, drop, suc, None, Some, slice_index_or, arith}
use Rattle.verify_sketches.specs.Numbered.{ends_of, frames_of, greatest_of, sum_of, transfer_if, whole_node}
use Rattle.verify_sketches.specs.View.{block_view, channel_view, sketch_view, start_view}
use Rattle.verify_numbers.specs.Columns.{linked}
use Rattle.verify_numbers.specs.Counts.{Counts, at, at_in}
use Rattle.verify_numbers.proofs.Edges.{added_there, built, built_alone, linked_none, then_linked, there_is}
use Rattle.verify_numbers.proofs.channel_nodes.add_whole.Goals as goal

pub returns : goal.returns
returns c =
    let s = sketch_view c.args.sketch.now in
    let k = channel_view c.args.channel.now in
    let y = whole_node (at_in s) c.args.number k in
    built c.args.nodes.now c.add.new.self c.link_ends_if.new.nodes y c.sum_of.result c.greatest_of.result y.edges c.in_ok-add.ensures
    (c.sum_of.ensures ∙ ap (sum_of 1) c.transfer_if.ensures) (c.greatest_of.ensures ∙ ap (greatest_of 1) c.frames_of-frames.ensures)
    c.in_ok-link_ends_if.ensures refl
