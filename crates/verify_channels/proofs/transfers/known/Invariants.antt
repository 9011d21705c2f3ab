use Rattle.std.proofs.Common.{◌≡◌, ℕ, Option, take}
use Rattle.std.specs.List.{filter_map}
use Rattle.verify_channels.proofs.transfers.known.Given as goal

abbrev pub invariant-loop-number : goal.invariant-loop-number
invariant-loop-number l = l.numbers.items ≡ filter_map (λ (o : Option ℕ). o) (take l.number l.targets)
