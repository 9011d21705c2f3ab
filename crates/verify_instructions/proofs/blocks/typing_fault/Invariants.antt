use Rattle.std.proofs.Common.{◌≡◌, drop, slice_get}
use Rattle.law_typing.specs.Rules.Sites.{program_faults, typing_faults}
use Rattle.verify_instructions.proofs.blocks.typing_fault.Given as goal

abbrev pub invariant-loop-number : goal.invariant-loop-number
invariant-loop-number l =
    slice_get (typing_faults l.lookups) 0 ≡ slice_get (program_faults l.lookups l.number (drop l.number l.lookups.programs)) 0
