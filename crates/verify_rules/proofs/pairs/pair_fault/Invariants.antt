use Rattle.verify_rules.proofs.PairedEnds.{IsReached}
use Rattle.verify_rules.proofs.pairs.pair_fault.Given as goal

abbrev pub invariant-loop-number : goal.invariant-loop-number
invariant-loop-number l = IsReached l.ends l.number l.lookups.bindings
