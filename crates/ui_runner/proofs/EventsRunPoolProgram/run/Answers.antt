use Rattle.host_peers.specs.Stock.{stocked_pool, stocked_relations}
use Rattle.ui_runner.proofs.StockedRuns.{runs_same}
use Rattle.ui_runner.proofs.EventsRunPoolProgram.run.Goals as goal

pub returns : goal.returns
returns g c bytes judged =
    runs_same (g.P.Peers.relations c.args.pool) (stocked_relations c.args.self.verified) (g.P.Peers.seen c.args.pool) (stocked_pool c.args.self.verified) bytes c.run_over.result
    c.requires.expected c.requires.asked (c.run_over.ensures bytes judged)
