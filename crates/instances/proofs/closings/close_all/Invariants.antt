use Rattle.std.proofs.Common.{◌≡◌, fold, length, take}
use Rattle.ui_machine.specs.Rules.Disposal.{peers_closed}
use Rattle.native_peers.specs.Matching.{as_peers}
use Rattle.native_peers.specs.Pool.{entries, relations, seen}
use Rattle.native_peers.specs.Seen.{SameRelations}
use Rattle.instances.proofs.closings.close_all.Given as goal

abbrev pub invariant-identities : goal.invariant-identities
invariant-identities g l = record {
  closed : as_peers (seen (λ p. (g.dyn-1.0.entry p.peer.vtable).1.state p.peer.value) (entries l.pool))
      ≡ fold peers_closed (as_peers (seen (λ p. (g.dyn-1.0.entry p.peer.vtable).1.state p.peer.value) (entries l.initial.pool))) (take l.below l.table.objects);
  same : SameRelations (relations (λ p. (g.dyn-1.0.entry p.peer.vtable).1.moves p.peer.value) (entries l.initial.pool)) (relations (λ p. (g.dyn-1.0.entry p.peer.vtable).1.moves p.peer.value) (entries l.pool));
  as_many : length (entries l.pool) ≡ length (entries l.initial.pool);
}
