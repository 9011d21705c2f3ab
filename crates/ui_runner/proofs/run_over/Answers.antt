use Rattle.event_lines.proofs.SameRuns.{ran_same}
use Rattle.ui_runner.proofs.run_over.Goals as goal

pub returns : goal.returns
returns g c bytes judged =
    let r = c.run_judged-over.ensures.ran bytes judged in (
      g.P.Peers.seen c.run_judged-over.result.pool,
      r.0,
      _,
      _,
      _,
      r.2,
      ran_same (g.P.Peers.relations c.args.pool) (g.P.Peers.relations c.args.pool) (λ k s m args answer t. (λ h. h, λ h. h)) _ _ _ _ _ _ _ (λ x. tt) _ _ _ bytes r.3,
    )
