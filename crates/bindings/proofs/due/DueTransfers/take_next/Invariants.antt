use Rattle.std.proofs.Common.{◌≡◌, length, reverse}
use Rattle.bindings.specs.Due.{from_ready}
use Rattle.bindings.proofs.due.DueTransfers.take_next.Given as goal

abbrev pub invariant-loop-transfer : goal.invariant-loop-transfer
invariant-loop-transfer l = from_ready l.bindings.bindings l.fn.self ≡ from_ready l.bindings.bindings (reverse l.self-inside.left.items)

abbrev pub decreases-loop-transfer : goal.decreases-loop-transfer
decreases-loop-transfer l = length l.self-inside.left.items
