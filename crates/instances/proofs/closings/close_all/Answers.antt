use Rattle.std.proofs.Common.{◌+◌, ◌∙◌, length, arith}
use Rattle.native_peers.specs.Matching.{as_peers}
use Rattle.native_peers.specs.Pool.{entries, seen}
use Rattle.instances.proofs.Closed.{close_end_by, close_more_by, same_on}
use Rattle.instances.proofs.closings.close_all.Goals as goal

pub identities-preserved : goal.identities-preserved
identities-preserved g c = record {
  closed = close_more_by c.identities.below (c.identities.below + 1) c.args.table.now.objects
      (as_peers (seen (λ p. (g.dyn-1.0.entry p.peer.vtable).1.state p.peer.value) (entries c.args.pool.now))) _ _ (omega arith) c.identities.invariant.closed c.close_peer.ensures.closed;
  same = same_on c.identities.invariant.same c.close_peer.ensures.same;
  as_many = c.close_peer.ensures.as_many ∙ c.identities.invariant.as_many;
}

pub returns-clause-closed : goal.returns-clause-closed
returns-clause-closed g c =
    close_end_by c.args.last c.identities.below (length (entries c.args.pool.now)) c.args.table.now.objects
    (as_peers (seen (λ p. (g.dyn-1.0.entry p.peer.vtable).1.state p.peer.value) (entries c.args.pool.now))) _ c.identities-test.false c.requires c.identities.invariant.closed
