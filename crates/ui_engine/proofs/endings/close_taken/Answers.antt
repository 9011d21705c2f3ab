use Rattle.std.proofs.Common.{◌≤◌, ◌<◌, length, arith}
use Rattle.engine_dispatches.proofs.Points.{same_on}
use Rattle.ui_engine.proofs.TakenProofs.{inside_still, taken_end, taken_on}
use Rattle.ui_engine.proofs.endings.close_taken.Goals as goal

pub close_if_taken-requires : goal.close_if_taken-requires
close_if_taken-requires g c = record {
  inside = inside_still (g.P.Peers.seen c.peers.pool) (g.P.Peers.seen c.args.pool.now) _ c.peers.number c.peers.invariant.closed
      (let few : c.peers.number < length (g.P.Peers.seen c.args.pool.now) = omega (arith, c.peers-test.true, c.left-number-end.ensures.count) in few);
}

pub peers-preserved : goal.peers-preserved
peers-preserved g c = record {
  closed = taken_on c.peers.number c.args.seats.now _ _ _ c.peers.invariant.closed c.close_if_taken.ensures.closed;
  same = same_on c.peers.invariant.same c.close_if_taken.ensures.same;
}

pub returns-clause-closed : goal.returns-clause-closed
returns-clause-closed g c =
    let all : length (g.P.Peers.seen c.args.pool.now) ≤ c.peers.number = omega (arith, c.peers-test.false, c.left-number-end.ensures.count) in
    taken_end (g.P.Peers.seen c.peers.pool) (g.P.Peers.seen c.args.pool.now) c.args.seats.now c.peers.number c.peers.invariant.closed all
