use Rattle.std.proofs.Common.{[], map}
use Rattle.std.specs.Prelude.{IsTrue}
use Rattle.std.specs.List.{All}
use Rattle.native_peers.specs.Pool.{entries}
use Rattle.host_peers.specs.Stock.{kept_after, stock_view}
use Rattle.host_peers.specs.StockedPools.{AreStocked}
use Rattle.host_peers.proofs.stocked_runs.run_with_stock.OwnLists.{own-1}
use Rattle.host_peers.proofs.stocked_runs.run_with_stock.Given as goal

abbrev pub invariant-peers : goal.invariant-peers
invariant-peers g l = record {
  all_open : All (λ p. IsTrue ((own-1.entry p.peer.vtable).1.state p.peer.value).is_open) (entries l.pool);
  stocked : AreStocked (λ p. (own-1.entry p.peer.vtable).1.state p.peer.value) (λ p. (own-1.entry p.peer.vtable).1.moves p.peer.value) (entries l.pool)
      (kept_after [] (map stock_view l.yielded));
}
