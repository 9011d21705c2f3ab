use Rattle.std.proofs.Common.{◌≡◌, map, ap, sym, subst, ◌∙◌}
use Rattle.std.proofs.lemmas.Iterator.Adapters.{YieldsList-from_vec}
use Rattle.std.proofs.lemmas.Iterator.Consumers.{YieldsList-end}
use Rattle.std.proofs.lemmas.List.{map-id}
use Rattle.native_peers.specs.Pool.{entries}
use Rattle.host_peers.specs.Stock.{stock_of, stock_view}
use Rattle.host_peers.specs.StockedPools.{AreStocked}
use Rattle.host_peers.specs.declared.stock_lists.StockKind.TheVariants as kinds
use Rattle.host_peers.proofs.Putting.{expected_end, stocked_more}
use Rattle.host_peers.proofs.stocked_runs.run_with_stock.OwnLists.{own-1}
use Rattle.host_peers.proofs.stocked_runs.run_with_stock.Goals as goal

pub peers-preserved-in_ok-put_new-in-Screen : goal.peers-preserved-in_ok-put_new-in-Screen
peers-preserved-in_ok-put_new-in-Screen g c = record {
  all_open = c.put_new.ensures.open;
  stocked = subst (AreStocked (λ p. (own-1.entry p.peer.vtable).1.state p.peer.value) (λ p. (own-1.entry p.peer.vtable).1.moves p.peer.value) (entries c.put_new.new.pool))
      (stocked_more c.peers.yielded c.in-Some.peer kinds.Screen c.in-Screen.is)
      (c.in_ok-put_new-in-Screen.ensures.stocked _ c.peers.invariant.stocked);
}

pub peers-preserved : goal.peers-preserved
peers-preserved g c = record {
  all_open = c.put_new-in-Tally.ensures.open;
  stocked = subst (AreStocked (λ p. (own-1.entry p.peer.vtable).1.state p.peer.value) (λ p. (own-1.entry p.peer.vtable).1.moves p.peer.value) (entries c.put_new-in-Tally.new.pool))
      (stocked_more c.peers.yielded c.in-Some.peer kinds.Tally c.in-Tally.is)
      (c.in_ok-put_new-in-Tally.ensures.stocked _ c.peers.invariant.stocked);
}

pub run-requires-clause-expected : goal.run-requires-clause-expected
run-requires-clause-expected g c =
    let gives = c.into_iter-peer-iterator.ensures.into_iter_gives in
    let items = c.in_ok-peer-items.peer-items in
    let ended =
    YieldsList-end (YieldsList-from_vec {s = c.into_iter-peer-iterator.result} items.items gives.0 (gives.1 ∙ items.ok.0)) c.peers.yielded c.peers.peer-iterator
    c.peers.yielded_by c.next.result c.next.new.self
    c.in-None.is c.next.ensures.steps in
    let all : map stock_view c.peers.yielded ≡ stock_of (g.P.PoolProgram.runs c.args.program) =
    ap (map stock_view) (sym (map-id c.peers.yielded) ∙ ended.0) ∙ (c.in_ok-peer-items.ensures ∙ ap stock_of c.definition.ensures) in
    expected_end (g.P.PoolProgram.runs c.args.program) c.peers.yielded _ _ all c.peers.invariant.stocked.same c.requires.expected
