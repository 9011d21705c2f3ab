use Rattle.std.proofs.Common.{◌≡◌, drop, map, length}
use Rattle.verify_sketches.specs.View.{block_view, channel_view, sketch_view, start_view}
use Rattle.verify_numbers.specs.Columns.{with_nodes}
use Rattle.verify_numbers.specs.Laid.{numbered}
use Rattle.verify_sketches.specs.Numbered.{place_node}
use Rattle.verify_numbers.specs.Counts.{at_in}
use Rattle.verify_numbers.proofs.program_nodes.add_places.Given as goal

abbrev pub invariant-loop-number : goal.invariant-loop-number
invariant-loop-number l =
    with_nodes l.nodes (numbered (place_node (sketch_view l.sketch) (at_in (sketch_view l.sketch))) l.number (drop l.number (map (λ v. v.items) l.paired)))
    ≡ with_nodes l.initial.nodes (numbered (place_node (sketch_view l.sketch) (at_in (sketch_view l.sketch))) 0 (map (λ v. v.items) l.paired))
