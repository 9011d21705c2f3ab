use Rattle.std.proofs.Common.{sym}
use Rattle.native_peers.proofs.pools.PeerPool.find_near.Goals as goal

pub returns-then-is_named : goal.returns-then-is_named
returns-then-is_named g c = sym (c.is_named.ensures c.if-is_named.true)
