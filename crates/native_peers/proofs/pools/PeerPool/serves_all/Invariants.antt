use Rattle.std.proofs.Common.{◌≡◌, drop, map}
use Rattle.law_peers.specs.Needs.{first_wrong}
use Rattle.native_peers.specs.Matching.{as_peers, need_view}
use Rattle.native_peers.specs.Pool.{entries, seen}
use Rattle.native_peers.proofs.pools.PeerPool.serves_all.Given as goal

abbrev pub invariant-needs : goal.invariant-needs
invariant-needs g l =
    let pool = as_peers (seen (λ p. (g.dyn-1.0.entry p.peer.vtable).1.state p.peer.value) (entries l.self)) in
    first_wrong pool (map need_view (drop l.number l.needs)) ≡ first_wrong pool (map need_view l.needs)
