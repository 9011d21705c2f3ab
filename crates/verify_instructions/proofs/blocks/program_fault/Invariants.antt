use Rattle.std.proofs.Common.{◌≡◌, drop, map, slice_get}
use Rattle.bytecode.specs.View.{block_view, program_view}
use Rattle.law_typing.specs.Rules.Sites.{block_faults}
use Rattle.verify_instructions.proofs.blocks.program_fault.Given as goal

abbrev pub invariant-loop-block : goal.invariant-loop-block
invariant-loop-block l =
    slice_get (block_faults l.lookups (program_view l.program) l.number 0 (program_view l.program).blocks) 0
    ≡ slice_get (block_faults l.lookups (program_view l.program) l.number l.block (drop l.block (map block_view l.program.blocks.items))) 0
