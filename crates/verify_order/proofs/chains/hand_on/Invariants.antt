use Rattle.std.proofs.Common.{◌≡◌, drop, length}
use Rattle.verify_order.specs.Chains.{handed_on}
use Rattle.verify_order.proofs.chains.hand_on.Given as goal

abbrev pub invariant-loop-place : goal.invariant-loop-place
invariant-loop-place l = record {
  count : length l.ranks.items ≡ length l.initial.ranks.items;
  so_far : handed_on (drop l.place l.nodes) l.number l.ranks.items ≡ handed_on l.nodes l.number l.initial.ranks.items;
}
