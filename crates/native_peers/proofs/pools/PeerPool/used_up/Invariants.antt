use Rattle.std.proofs.Common.{◌≡◌, drop, map}
use Rattle.law_peers.specs.Needs.{first_unused}
use Rattle.native_peers.specs.Matching.{as_peers, need_view}
use Rattle.native_peers.specs.Pool.{entries, seen}
use Rattle.native_peers.proofs.pools.PeerPool.used_up.Given as goal

abbrev pub invariant-peers : goal.invariant-peers
invariant-peers g l =
    first_unused (map need_view l.needs) (as_peers (seen (λ p. (g.dyn-1.0.entry p.peer.vtable).1.state p.peer.value) (drop l.peer-index (entries l.self))))
    ≡ first_unused (map need_view l.needs) (as_peers (seen (λ p. (g.dyn-1.0.entry p.peer.vtable).1.state p.peer.value) (entries l.self)))
