use Rattle.std.proofs.Common.{◌≡◌, ℕ, [], length}
use Rattle.verify_channels.specs.Connected.{placed}
use Rattle.verify_channels.proofs.connections.Connects.new.Given as goal

abbrev pub invariant-loop-place : goal.invariant-loop-place
invariant-loop-place l = record {
  count : length l.at.items ≡ l._place;
  empty : (n number : ℕ) → placed l.at.items n number ≡ [];
}
