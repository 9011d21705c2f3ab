use Rattle.std.proofs.Common.{◌+◌, ◌≤◌, drop, length, map, take}
use Rattle.bytecode.specs.Shape.{instructions_in}
use Rattle.bytecode.specs.View.{block_view, program_view}
use Rattle.verify_sketches.specs.Pointwise.{Pointwise}
use Rattle.verify_sketches.specs.View.{block_view as sketched_view}
use Rattle.verify_starts.specs.SketchedCode.{IsBlock}
use Rattle.verify_starts.specs.Tables.{GoesOn, starts_in}
use Rattle.verify_starts.proofs.programs.sketched_blocks.Given as goal

abbrev pub invariant-loop-number : goal.invariant-loop-number
invariant-loop-number l = record {
  goes_on : GoesOn l.lookups l.numbers l.initial.starts l.starts;
  few :
      length l.starts.starts.items + instructions_in (drop l.number (map block_view l.program.blocks.items))
      ≤ length l.initial.starts.starts.items + instructions_in (program_view l.program).blocks;
  blocks : Pointwise (IsBlock l.lookups l.numbers (starts_in l.starts) (program_view l.program)) (map sketched_view l.blocks.items) (map block_view (take l.number l.program.blocks.items));
}
