use Rattle.std.proofs.Common.{◌≡◌, take}
use Rattle.ui_verifier.proofs.bounds.ranks_of.Given as goal

abbrev pub invariant-loop-value : goal.invariant-loop-value
invariant-loop-value l = l.ranks.items ≡ take l.value-index l.values
