use Rattle.std.proofs.Common.{◌≡◌, ◌∙◌, sym, refl, ap, ◌+◌, ◌*◌, ◌-◌, ◌<◌, ◌∷◌, [], ◌++◌, true, false, cond, not, map, length, take, drop, suc, None, Some, slice_index_or, arith}
use Rattle.verify_sketches.specs.Numbered.{next_blocks, next_node}
use Rattle.verify_sketches.specs.View.{block_view, channel_view, sketch_view, start_view}
use Rattle.verify_numbers.specs.Columns.{linked}
use Rattle.verify_numbers.specs.Counts.{Counts, at, at_in}
use Rattle.verify_numbers.proofs.Edges.{added_there, built, built_alone, linked_none, then_linked, there_is}
use Rattle.verify_numbers.proofs.block_nodes.add_next.Goals as goal

pub returns : goal.returns
returns c =
    let s = sketch_view c.args.sketch.now in
    let y = next_node (at_in s) c.args.program c.args.count c.args.number (block_view c.args.block.now) in
    built c.args.nodes.now c.add.new.self c.link_next.new.nodes y c.greatest_of.result c.greatest_of-2.result (next_blocks (at_in s) c.args.program c.args.count c.args.number c.as_slice.result.now) c.in_ok-add.ensures c.greatest_of.ensures c.greatest_of-2.ensures
    c.in_ok-link_next.ensures (ap (next_blocks (at_in s) c.args.program c.args.count c.args.number) c.as_slice.ensures.value)
