use Rattle.std.proofs.Common.{◌≡◌, drop, map, length}
use Rattle.verify_sketches.specs.View.{block_view, channel_view, sketch_view, start_view}
use Rattle.verify_numbers.specs.Columns.{with_nodes}
use Rattle.verify_numbers.specs.Laid.{numbered}
use Rattle.verify_numbers.specs.Laid.{block_part_node}
use Rattle.verify_numbers.proofs.block_nodes.add_parts.Given as goal

abbrev pub invariant-loop-number : goal.invariant-loop-number
invariant-loop-number l =
    with_nodes l.nodes (numbered (block_part_node (sketch_view l.sketch) l.part l.program (length (map block_view l.blocks))) l.number (drop l.number (map (block_view) l.blocks)))
    ≡ with_nodes l.initial.nodes (numbered (block_part_node (sketch_view l.sketch) l.part l.program (length (map block_view l.blocks))) 0 (map (block_view) l.blocks))
