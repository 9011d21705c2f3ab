use Rattle.std.proofs.Common.{◌≡◌, ◌∙◌, sym, refl, ap, ◌+◌, ◌*◌, ◌-◌, ◌<◌, ◌∷◌, [], ◌++◌, true, false, cond, not, map, length, take, drop, suc, None, Some, slice_index_or, arith}
use Rattle.verify_sketches.specs.Numbered.{block, blocks_node}
use Rattle.verify_sketches.specs.View.{block_view, channel_view, sketch_view, start_view}
use Rattle.verify_numbers.specs.Columns.{linked}
use Rattle.verify_numbers.specs.Counts.{Counts, at, at_in}
use Rattle.verify_numbers.proofs.Edges.{added_there, built, built_alone, linked_none, then_linked, there_is}
use Rattle.verify_numbers.proofs.Lists.{mapped_length}
use Rattle.ui_machine.specs.Seq.{listed}
use Rattle.verify_numbers.proofs.program_nodes.add_blocks.Goals as goal

pub returns : goal.returns
returns c =
    let s = sketch_view c.args.sketch.now in
    let y = blocks_node (at_in s) c.args.number (map block_view c.args.blocks.now) in
    built c.args.nodes.now c.add.new.self c.link_blocks.new.nodes y c.greatest_of.result c.greatest_of-2.result (listed (λ b. at_in s (block c.args.number b)) (length c.args.blocks.now)) c.in_ok-add.ensures c.greatest_of.ensures c.greatest_of-2.ensures
    c.in_ok-link_blocks.ensures (ap (listed (λ b. at_in s (block c.args.number b))) (sym (mapped_length block_view c.args.blocks.now)))
