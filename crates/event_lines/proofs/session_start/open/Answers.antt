use Rattle.std.proofs.Common.{refl}
use Rattle.native_peers.specs.Matching.{as_peers}
use Rattle.engine_dispatches.proofs.Points.{same_here}
use Rattle.event_lines.proofs.Openings.{opens_refused, opens_unbegun}
use Rattle.event_lines.proofs.session_start.open.Goals as goal

pub returns-in-Refused-clause-opened : goal.returns-in-Refused-clause-opened
returns-in-Refused-clause-opened g c bytes judged =
    opens_refused g.P.Peers.seen (g.P.Peers.relations c.args.pool) (as_peers (g.P.Peers.seen c.args.pool)) c.args.pool bytes c.in-Refused.text c.args.pool refl (rw c.in-Refused.is at judged)

pub returns-in-Unjudged-clause-opened : goal.returns-in-Unjudged-clause-opened
returns-in-Unjudged-clause-opened g c bytes judged = opens_unbegun g.P.Peers.seen (g.P.Peers.relations c.args.pool) (as_peers (g.P.Peers.seen c.args.pool)) c.args.pool bytes c.args.pool refl

pub returns-in-Refused-clause-same : goal.returns-in-Refused-clause-same
returns-in-Refused-clause-same g c = same_here (g.P.Peers.relations c.args.pool)

pub returns-in-Unjudged-clause-same : goal.returns-in-Unjudged-clause-same
returns-in-Unjudged-clause-same g c = same_here (g.P.Peers.relations c.args.pool)
