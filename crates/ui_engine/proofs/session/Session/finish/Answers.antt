use Rattle.std.proofs.Common.{◌≡◌, ◌∙◌, ap, subst}
use Rattle.engine_dispatches.proofs.Points.{same_on}
use Rattle.ui_engine.specs.Endings.{identified, taken_closed}
use Rattle.ui_engine.specs.SessionView.{SessionState}
use Rattle.ui_engine.proofs.InOrder.{in_order_once}
use Rattle.ui_engine.proofs.session.Session.finish.Goals as goal

pub returns-clause-closed : goal.returns-clause-closed
returns-clause-closed g c =
    let peers = c.core.inside.engine.world.seats in
    subst (λ (s : SessionState). g.P.Peers.seen c.close_taken.new.pool ≡ taken_closed s.world.peers (g.P.Peers.seen c.args.self.pool)) c.core.view_is
    (c.close_taken.ensures.closed
    ∙ (ap (λ pool. taken_closed peers pool) c.close_in_order.ensures.closed
    ∙ in_order_once peers (identified c.core.inside.engine.world.table.objects) (g.P.Peers.seen c.args.self.pool)))

pub returns-clause-same : goal.returns-clause-same
returns-clause-same g c = same_on c.close_in_order.ensures.same c.close_taken.ensures.same
