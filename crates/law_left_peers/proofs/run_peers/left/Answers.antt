use Rattle.native_peers.specs.Matching.{as_peers}
use Rattle.law_left_peers.proofs.Runs.RunPeersProofs.{runs_leave, seen_apart, stops_leave}
use Rattle.law_left_peers.proofs.run_peers.left.Goals as goal

pub returns : goal.returns
returns g c =
    let may = g.P.Peers.relations c.args.pool.now in
    let seen = g.P.Peers.seen c.args.pool.now in
    record {
      runs = runs_leave may (as_peers seen) (seen_apart seen c.left-count.ensures.apart);
      stops = stops_leave may (as_peers seen) (seen_apart seen c.left-count.ensures.apart);
    }
