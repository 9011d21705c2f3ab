use Rattle.std.proofs.Common.{◌≡◌, drop, map}
use Rattle.bytecode.specs.View.{block_view, instruction_view, program_view}
use Rattle.law_typing.specs.Rules.Typing.{again, block_broken, first_broken}
use Rattle.verify_operands.specs.Views.{kinds_of}
use Rattle.verify_instructions.proofs.blocks.block_fault.Given as goal

abbrev pub invariant-loop-at : goal.invariant-loop-at
invariant-loop-at l =
    block_broken l.lookups (program_view l.program) (block_view l.block)
    ≡ first_broken l.lookups (program_view l.program) (again (block_view l.block)) l.at (kinds_of l.kinds.items) (drop l.at (map instruction_view l.block.code.items))
