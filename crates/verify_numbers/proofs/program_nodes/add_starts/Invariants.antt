use Rattle.std.proofs.Common.{◌≡◌, drop, map, length}
use Rattle.verify_sketches.specs.View.{block_view, channel_view, sketch_view, start_view}
use Rattle.verify_numbers.specs.Columns.{with_nodes}
use Rattle.verify_numbers.specs.Laid.{numbered}
use Rattle.verify_sketches.specs.Numbered.{start_node}
use Rattle.verify_numbers.specs.Counts.{at_in}
use Rattle.verify_numbers.proofs.program_nodes.add_starts.Given as goal

abbrev pub invariant-loop-number : goal.invariant-loop-number
invariant-loop-number l =
    with_nodes l.nodes (numbered (start_node (sketch_view l.sketch) (at_in (sketch_view l.sketch))) l.number (drop l.number (map (start_view) l.starts)))
    ≡ with_nodes l.initial.nodes (numbered (start_node (sketch_view l.sketch) (at_in (sketch_view l.sketch))) 0 (map (start_view) l.starts))
