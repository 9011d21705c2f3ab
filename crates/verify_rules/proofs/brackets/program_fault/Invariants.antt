use Rattle.std.proofs.Common.{◌≡◌, drop, map, slice_get}
use Rattle.bytecode.specs.View.{block_view, program_view}
use Rattle.law_typing.specs.Rules.Brackets.{balance_faults}
use Rattle.verify_rules.proofs.brackets.program_fault.Given as goal

abbrev pub invariant-loop-block : goal.invariant-loop-block
invariant-loop-block l =
    slice_get (balance_faults l.number 0 (program_view l.program).blocks) 0
    ≡ slice_get (balance_faults l.number l.block (drop l.block (map block_view l.program.blocks.items))) 0
