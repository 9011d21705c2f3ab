use Rattle.std.proofs.Common.{◌≡◌, drop, map, length}
use Rattle.verify_sketches.specs.View.{block_view, channel_view, sketch_view, start_view}
use Rattle.verify_numbers.specs.Columns.{with_nodes}
use Rattle.verify_numbers.specs.Laid.{numbered}
use Rattle.verify_numbers.specs.Laid.{program_part_node}
use Rattle.verify_numbers.proofs.program_nodes.add_programs.Given as goal

abbrev pub invariant-loop-number : goal.invariant-loop-number
invariant-loop-number l =
    with_nodes l.nodes (numbered (program_part_node (sketch_view l.sketch) l.part) l.number (drop l.number (map (λ v. map block_view v.items) l.programs)))
    ≡ with_nodes l.initial.nodes (numbered (program_part_node (sketch_view l.sketch) l.part) 0 (map (λ v. map block_view v.items) l.programs))
