use Rattle.std.proofs.Common.{◌≡◌, refl}
use Rattle.builder_defs.specs.Denoted.{denoted}
use Rattle.native_peers.specs.Matching.{as_peers}
use Rattle.engine_dispatches.proofs.Points.{same_on}
use Rattle.event_lines.proofs.Openings.{denoted_where_built, on_err, on_ok, ran_stopped, ran_unbegun, ran_refused, ran_built}
use Rattle.event_lines.proofs.whole_runs.run_judged.Goals as goal

pub returns-in-Stopped-clause-ran : goal.returns-in-Stopped-clause-ran
returns-in-Stopped-clause-ran g c bytes judged =
    let written = rw c.transcript.ensures at c.stop-status.ensures.concludes in
    ran_stopped g.P.Peers.seen (g.P.Peers.relations c.args.pool) c.args.pool bytes _ _ _ _ _ _ _ _ _ c.in-Stopped.session _ (c.in-Stopped.ensures.opened bytes judged) c.finish-pool.ensures.closed refl written

pub returns-in-Stopped-clause-unread : goal.returns-in-Stopped-clause-unread
returns-in-Stopped-clause-unread g c bytes judged = on_err (denoted bytes) refl

pub returns-in-Stopped-clause-same : goal.returns-in-Stopped-clause-same
returns-in-Stopped-clause-same g c = same_on c.in-Stopped.ensures.same c.finish-pool.ensures.same

pub returns-in-Unbegun-clause-ran : goal.returns-in-Unbegun-clause-ran
returns-in-Unbegun-clause-ran g c bytes judged =
    ran_unbegun g.P.Peers.seen (g.P.Peers.relations c.args.pool) c.args.pool bytes _ _ _ _ _ _ _ _ _ c.in-Unbegun.pool (c.in-Unbegun.ensures.opened bytes judged) refl c.refuse_for_memory-status.ensures.concludes

pub returns-in-Built-clause-ran : goal.returns-in-Built-clause-ran
returns-in-Built-clause-ran g c bytes judged =
    ran_built g.P.Peers.seen (g.P.Peers.relations c.args.pool) c.args.pool bytes _ _ _ _ _ _ _ _ _ (g.P.Peers.relations c.in-Built.session.pool) c.in-Built.session
    (g.P.Peers.seen c.play-status.new.session.pool) c.play-status.new.session.core _ (c.in-Built.ensures.opened bytes judged) c.in-Built.ensures.same c.finish-pool-in-Built.ensures.closed c.play-status.ensures.plays

pub returns-in-Built-clause-same : goal.returns-in-Built-clause-same
returns-in-Built-clause-same g c = same_on c.in-Built.ensures.same (same_on c.play-status.ensures.same c.finish-pool-in-Built.ensures.same)

pub returns-in-Refused-clause-ran : goal.returns-in-Refused-clause-ran
returns-in-Refused-clause-ran g c bytes judged =
    let written = rw c.deref.ensures at c.refuse-status.ensures.concludes in
    ran_refused g.P.Peers.seen (g.P.Peers.relations c.args.pool) c.args.pool bytes _ _ _ _ _ _ _ _ _ c.in-Refused.text c.in-Refused.pool (c.in-Refused.ensures.opened bytes judged) refl written

pub returns-in-Built-clause-unread : goal.returns-in-Built-clause-unread
returns-in-Built-clause-unread g c bytes judged =
    on_ok (c.play-status.new.reader ≡ c.args.reader.now) (denoted bytes) _
    (denoted_where_built g.P.Peers.seen (g.P.Peers.relations c.args.pool) (as_peers (g.P.Peers.seen c.args.pool))
    bytes c.in-Built.session c.args.pool (c.in-Built.ensures.opened bytes judged))
