use Rattle.std.proofs.Common.{Result, subst}
use Rattle.law_peers.proofs.PoolProofs.{matched_is_ready}
use Rattle.native_peers.specs.Matching.{as_peers}
use Rattle.engine_dispatches.proofs.Points.{same_here}
use Rattle.engine_dispatches.specs.declared.dispatches.Reply.{Reply}
use Rattle.ui_engine.specs.declared.faults.SessionFault.{SessionFault}
use Rattle.ui_engine.specs.SessionView.{Comes, building, state_at}
use Rattle.event_lines.specs.Opening.{IsTaken}
use Rattle.event_lines.proofs.Openings.{all_free, judges_accepted, opens_built, opens_stopped}
use Rattle.event_lines.proofs.session_start.build.Goals as goal

pub returns-in-Ok-build-clause-opened : goal.returns-in-Ok-build-clause-opened
returns-in-Ok-build-clause-opened g c bytes denotes =
    let d = c.args.verified in
    let pool = (g.P.Peers.seen c.args.pool) in
    let peers = as_peers pool in
    let taken : IsTaken bytes d peers = record {
      denoted = denotes;
      judged = judges_accepted d c.definition.ensures.accepted;
      accepted = c.definition.ensures.accepted;
      matches = c.in-Ok.ensures.matches;
      ready = matched_is_ready d peers c.in-Ok.ensures.matches (all_free pool);
    } in
    let session = c.in-Ok.started.session in
    opens_built g.P.Peers.seen (g.P.Peers.relations c.args.pool) peers c.args.pool bytes d denotes (judges_accepted d c.definition.ensures.accepted) session taken c.in-Ok-build.field-0
    (subst (λ (b : Result Reply SessionFault). Comes b (building (g.P.Peers.relations c.args.pool) d peers) d (state_at (g.P.Peers.seen session.pool) session.core)) c.in-Ok-build.is c.in-Ok.ensures.built)

pub returns-in-Err-clause-opened : goal.returns-in-Err-clause-opened
returns-in-Err-clause-opened g c bytes denotes =
    (rw c.in-Err.ensures.refused.1 at c.unstarted.ensures.opened) bytes c.args.verified denotes (judges_accepted c.args.verified c.definition.ensures.accepted) c.in-Err.ensures.refused.2

pub returns-in-Err-clause-same : goal.returns-in-Err-clause-same
returns-in-Err-clause-same g c = rw (c.unstarted.ensures.same, c.in-Err.ensures.refused.1) (same_here (g.P.Peers.relations c.args.pool))

pub returns-in-Err-build-clause-opened : goal.returns-in-Err-build-clause-opened
returns-in-Err-build-clause-opened g c bytes denotes =
    let d = c.args.verified in
    let pool = (g.P.Peers.seen c.args.pool) in
    let peers = as_peers pool in
    let taken : IsTaken bytes d peers = record {
      denoted = denotes;
      judged = judges_accepted d c.definition.ensures.accepted;
      accepted = c.definition.ensures.accepted;
      matches = c.in-Ok.ensures.matches;
      ready = matched_is_ready d peers c.in-Ok.ensures.matches (all_free pool);
    } in
    let session = c.in-Ok.started.session in
    opens_stopped g.P.Peers.seen (g.P.Peers.relations c.args.pool) peers c.args.pool bytes d denotes (judges_accepted d c.definition.ensures.accepted) session taken c.in-Err-build.field-0
    (subst (λ (b : Result Reply SessionFault). Comes b (building (g.P.Peers.relations c.args.pool) d peers) d (state_at (g.P.Peers.seen session.pool) session.core)) c.in-Err-build.is c.in-Ok.ensures.built)
