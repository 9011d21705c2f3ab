use Rattle.std.proofs.Common.{◌≡◌, ◌≤◌, ◌+◌, length, map, drop}
use Rattle.bytecode.specs.Shape.{instructions_in}
use Rattle.bytecode.specs.View.{block_view, program_view}
use Rattle.verify_channels.specs.ConnectedCode.{blocks_connections}
use Rattle.verify_channels.proofs.ConnectedCodes.{SoFar}
use Rattle.verify_channels.proofs.connections.Connects.add_program.Given as goal

abbrev pub invariant-loop-number : goal.invariant-loop-number
invariant-loop-number l = record {
  places : length l.self.at.items ≡ length l.lookups.places;
  few :
      length l.self.groups.items + instructions_in (drop l.number (map block_view l.program.blocks.items))
      ≤ length l.initial.self.groups.items + instructions_in (program_view l.program).blocks;
  so_far :
      SoFar l.lookups l.initial.self l.self (blocks_connections l.lookups (program_view l.program) (drop l.number (map block_view l.program.blocks.items)))
      (blocks_connections l.lookups (program_view l.program) (program_view l.program).blocks);
}
