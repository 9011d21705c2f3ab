use Rattle.std.proofs.Common.{◌+◌, ◌≤◌, drop, length, map}
use Rattle.bytecode.specs.View.{block_view, instruction_view, program_view}
use Rattle.verify_operands.specs.Views.{kinds_of}
use Rattle.verify_starts.specs.SketchedCode.{sketched_code}
use Rattle.verify_starts.specs.Tables.{GoesOn, starts_in}
use Rattle.verify_starts.proofs.CodeSteps.{SoFar}
use Rattle.verify_starts.proofs.programs.block_starts.Given as goal

abbrev pub invariant-loop-at : goal.invariant-loop-at
invariant-loop-at l = record {
  goes_on : GoesOn l.lookups l.numbers l.initial.starts l.starts;
  few : length l.starts.starts.items ≤ length l.initial.starts.starts.items + l.at;
  so_far :
      SoFar l.lookups l.numbers (program_view l.program) (starts_in l.starts) l.found.items (kinds_of l.kinds.items) (drop l.at (map instruction_view l.block.code.items))
      (sketched_code l.lookups l.numbers (program_view l.program) (block_view l.block).entry (block_view l.block).code);
}
