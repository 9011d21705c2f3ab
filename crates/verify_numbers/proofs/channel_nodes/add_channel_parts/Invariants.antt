use Rattle.std.proofs.Common.{◌≡◌, drop, map, length}
use Rattle.verify_sketches.specs.View.{block_view, channel_view, sketch_view, start_view}
use Rattle.verify_numbers.specs.Columns.{with_nodes}
use Rattle.verify_numbers.specs.Laid.{numbered}
use Rattle.verify_numbers.specs.Laid.{channel_node}
use Rattle.verify_numbers.proofs.channel_nodes.add_channel_parts.Given as goal

abbrev pub invariant-loop-number : goal.invariant-loop-number
invariant-loop-number l =
    with_nodes l.nodes (numbered (channel_node (sketch_view l.sketch) l.handlers l.part) l.number (drop l.number (map (channel_view) l.channels)))
    ≡ with_nodes l.initial.nodes (numbered (channel_node (sketch_view l.sketch) l.handlers l.part) 0 (map (channel_view) l.channels))
