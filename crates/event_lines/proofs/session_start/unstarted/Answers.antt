use Rattle.std.proofs.Common.{refl}
use Rattle.law_peers.specs.Needs.{mismatch}
use Rattle.native_peers.specs.Matching.{as_peers}
use Rattle.event_lines.proofs.Openings.{opens_mismatched, opens_unbegun}
use Rattle.event_lines.proofs.session_start.unstarted.Goals as goal

pub returns-in-Some-clause-opened : goal.returns-in-Some-clause-opened
returns-in-Some-clause-opened g c bytes d denotes judged why =
    let peers = as_peers (g.P.Peers.seen c.args.refused.pool) in
    opens_mismatched g.P.Peers.seen (g.P.Peers.relations c.args.refused.pool) peers c.args.refused.pool bytes d denotes judged c.in-Some.text c.args.refused.pool refl (c.in-Some.ensures (mismatch d peers) why)

pub returns-clause-opened : goal.returns-clause-opened
returns-clause-opened g c bytes d denotes judged why = opens_unbegun g.P.Peers.seen (g.P.Peers.relations c.args.refused.pool) (as_peers (g.P.Peers.seen c.args.refused.pool)) c.args.refused.pool bytes c.args.refused.pool refl
