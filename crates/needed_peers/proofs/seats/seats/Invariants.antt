use Rattle.std.proofs.Common.{◌≡◌, take}
use Rattle.needed_peers.proofs.Seating.{known}
use Rattle.needed_peers.proofs.seats.seats.Given as goal

abbrev pub invariant-peers : goal.invariant-peers
invariant-peers g l = l.seats ≡ known (take l.k (g.P.Peers.seen l.pool))
