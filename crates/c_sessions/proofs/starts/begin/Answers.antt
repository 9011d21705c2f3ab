use Rattle.std.proofs.Common.{Option, ap, ◌∙◌}
use Rattle.native_peers.specs.StandIns.{stand_ins}
use Rattle.native_peers.specs.declared.stand_ins.StandIn.{StandIn}
use Rattle.ui_engine.specs.SessionView.{state_at}
use Rattle.c_sessions.specs.RunStates.{reached}
use Rattle.c_sessions.proofs.Alone.{built_here, is_built, is_stopped, refused_alone, stopped_here}
use Rattle.c_sessions.proofs.starts.begin.Goals as goal

pub returns-in-Refused : goal.returns-in-Refused
returns-in-Refused c bytes judged =
    refused_alone bytes c.in-Refused.text _ (c.in-Refused.ensures.opened bytes judged)

pub returns-in-Stopped : goal.returns-in-Stopped
returns-in-Stopped c bytes judged =
    let opened = c.in-Stopped.ensures.opened bytes judged in
    let session = c.in-Stopped.session in
    is_stopped bytes (state_at (stand_ins session.pool) session.core) c.of.result
    (ap reached c.of.ensures.running) c.of.ensures.unread
    (stopped_here stand_ins bytes session opened.opening opened.is opened.opens)

pub returns : goal.returns
returns c bytes judged =
    let opened = c.in-Built.ensures.opened bytes judged in
    let session = c.in-Built.session in
    is_built bytes (state_at (stand_ins session.pool) session.core) c.of-in-Built.result
    (ap reached c.of-in-Built.ensures.running) c.of-in-Built.ensures.unread
    (built_here stand_ins bytes session opened.opening opened.is opened.opens)
