use Rattle.std.proofs.Common.{sym, subst, arith, IfNone}
use Rattle.verify_order.specs.Graphs.{IsOrder}
use Rattle.verify_order.specs.Searches.{IsDone}
use Rattle.verify_order.proofs.Steps.{more_done, is_order}
use Rattle.verify_order.proofs.orders.sort.Goals as goal

pub loop-root-preserved : goal.loop-root-preserved
loop-root-preserved c = record {
  search = c.in_ok-place.ensures.search;
  done =
      more_done c.loop-root.search c.visit.new.self c.loop-root.root c.loop-root.invariant.done c.in_ok-place.ensures.kept
      (subst (λ r. IfNone r (IsDone c.visit.new.self c.loop-root.root)) c.in_default.is c.in_ok-place.ensures.done);
}

pub returns : goal.returns
returns c =
    subst (λ nodes. IsOrder c.args.dependencies.now nodes) (sym c.into_order.ensures)
    (is_order c.args.dependencies.now c.loop-root.search c.loop-root.invariant.search
    (λ n below. c.loop-root.invariant.done n (omega (arith, below, c.loop-root-test.false, c.node_count-root-end.ensures))))
