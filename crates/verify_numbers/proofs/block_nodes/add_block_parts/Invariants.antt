use Rattle.std.proofs.Common.{◌≡◌, drop, map}
use Rattle.verify_sketches.specs.View.{block_view, sketch_view}
use Rattle.verify_numbers.specs.Columns.{with_nodes}
use Rattle.verify_numbers.specs.Laid.{block_nodes_from}
use Rattle.verify_numbers.proofs.block_nodes.add_block_parts.Given as goal

abbrev pub invariant-loop-number : goal.invariant-loop-number
invariant-loop-number l =
    with_nodes l.nodes (block_nodes_from (sketch_view l.sketch) l.part l.number (drop l.number (map (λ v. map block_view v.items) l.programs)))
    ≡ with_nodes l.initial.nodes (block_nodes_from (sketch_view l.sketch) l.part 0 (map (λ v. map block_view v.items) l.programs))
