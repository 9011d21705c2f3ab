use Rattle.std.proofs.Common.{◌≡◌, ℕ, [], length}
use Rattle.verify_channels.specs.Transfers.{list_at}
use Rattle.verify_channels.proofs.transfers.empty_lists.Given as goal

abbrev pub invariant-loop-number : goal.invariant-loop-number
invariant-loop-number l = record {
  count : length l.lists.items ≡ l._number;
  empty : (n : ℕ) → list_at l.lists.items n ≡ [];
}
