use Rattle.std.proofs.Common.{◌≡◌, ◌≤◌, ◌+◌, length, map, drop}
use Rattle.bytecode.specs.View.{block_view, instruction_view, program_view}
use Rattle.verify_operands.specs.Views.{kinds_of}
use Rattle.verify_channels.specs.ConnectedCode.{code_connections}
use Rattle.verify_channels.proofs.ConnectedCodes.{SoFar}
use Rattle.verify_channels.proofs.connections.Connects.add_block.Given as goal

abbrev pub invariant-loop-at : goal.invariant-loop-at
invariant-loop-at l = record {
  places : length l.self.at.items ≡ length l.lookups.places;
  few : length l.self.groups.items ≤ length l.initial.self.groups.items + l.at;
  so_far :
      SoFar l.lookups l.initial.self l.self
      (code_connections l.lookups (program_view l.program) (kinds_of l.kinds.items) (drop l.at (map instruction_view l.block.code.items)))
      (code_connections l.lookups (program_view l.program) (block_view l.block).entry (block_view l.block).code);
}
