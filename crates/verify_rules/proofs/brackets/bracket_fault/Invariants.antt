use Rattle.std.proofs.Common.{◌≡◌, drop, slice_get}
use Rattle.law_typing.specs.Rules.Brackets.{bracket_faults, unbalanced_from}
use Rattle.verify_rules.proofs.brackets.bracket_fault.Given as goal

abbrev pub invariant-loop-number : goal.invariant-loop-number
invariant-loop-number l =
    slice_get (bracket_faults l.lookups) 0 ≡ slice_get (unbalanced_from l.number (drop l.number l.lookups.programs)) 0
