use Rattle.std.proofs.Common.{◌≡◌, ◌<◌, ◌≤◌, ℕ, Some, slice_get, get_or}
use Rattle.ui_verifier.proofs.cycles.least.Given as goal

abbrev pub invariant-loop-number : goal.invariant-loop-number
invariant-loop-number l = record {
  behind : l.first ≤ l.number;
  inside : 0 < l.number → l.first < l.number;
  least : (k n : ℕ) → k < l.number → slice_get l.values k ≡ Some n → get_or l.values l.first 0 ≤ n;
}
