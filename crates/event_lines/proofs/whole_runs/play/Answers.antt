use Rattle.std.proofs.Common.{refl, []}
use Rattle.engine_dispatches.proofs.Points.{same_here}
use Rattle.ui_engine.specs.SessionView.{state_at, without_lines}
use Rattle.event_lines.specs.Events.{event_replies}
use Rattle.event_lines.proofs.Openings.{breaks_off, plays}
use Rattle.event_lines.proofs.whole_runs.play.Goals as goal

pub returns-in_default-clause-plays : goal.returns-in_default-clause-plays
returns-in_default-clause-plays g c =
    let first = rw c.transcript.ensures at c.in_default.ensures.puts in
    rw (c.forget.ensures.lines, c.forget.ensures.pool)
    (breaks_off (event_replies (g.P.Peers.relations c.args.session.now.pool)) (without_lines (state_at (g.P.Peers.seen c.args.session.now.pool) c.args.session.now.core)) _ _ _ _ _ _ _ (g.W.Writer.sent c.args.writer.now) _ _ [] refl c.new-gather.ensures c.in_default.ensures.marks refl first)

pub returns-in_default-clause-same : goal.returns-in_default-clause-same
returns-in_default-clause-same g c = rw c.forget.ensures.pool (same_here (g.P.Peers.relations c.args.session.now.pool))

pub returns-clause-same : goal.returns-clause-same
returns-clause-same g c = rw c.forget.ensures.pool at c.handle_lines.ensures.same

pub returns-clause-plays : goal.returns-clause-plays
returns-clause-plays g c =
    let first = rw c.transcript.ensures at c.in-Ok.ensures.puts in
    let file_run = rw (c.forget.ensures.lines, c.forget.ensures.pool) at c.handle_lines.ensures.file_run in
    plays (event_replies (g.P.Peers.relations c.args.session.now.pool)) (without_lines (state_at (g.P.Peers.seen c.args.session.now.pool) c.args.session.now.core)) _ _ _ _ _ _ _ _ _ _ _ _ c.handle_lines.result
    (state_at (g.P.Peers.seen c.handle_lines.new.session.pool) c.handle_lines.new.session.core) c.new-gather.ensures first file_run
