use Rattle.std.proofs.Common.{◌≡◌, length, take}
use Rattle.verify_channels.specs.Transfers.{AreTargets}
use Rattle.verify_channels.proofs.transfers.transfers.Given as goal

abbrev pub invariant-loop-number : goal.invariant-loop-number
invariant-loop-number l = record {
  count : length l.lists.items ≡ length l.numbers;
  targets : AreTargets l.numbers l.lists.items (take l.number l.lookups.bindings);
}
