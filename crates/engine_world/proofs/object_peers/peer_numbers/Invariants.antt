use Rattle.std.proofs.Common.{◌≡◌, length}
use Rattle.engine_world.proofs.PeerNumbers.{HasNumbers}
use Rattle.engine_world.proofs.object_peers.peer_numbers.Given as goal

abbrev pub invariant-places : goal.invariant-places
invariant-places l = HasNumbers l.definition l.seats l.place l.kept.items × (l.place ≡ length l.kept.items)
