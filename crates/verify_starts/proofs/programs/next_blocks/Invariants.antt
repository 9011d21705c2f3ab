use Rattle.std.proofs.Common.{◌≡◌, map, take}
use Rattle.std.specs.List.{flat_map}
use Rattle.bytecode.specs.View.{instruction_view}
use Rattle.law_typing.specs.Graph.{next_of}
use Rattle.verify_starts.proofs.programs.next_blocks.Given as goal

abbrev pub invariant-loop-at : goal.invariant-loop-at
invariant-loop-at l = l.next.items ≡ flat_map next_of (map instruction_view (take l.at l.block.code.items))
