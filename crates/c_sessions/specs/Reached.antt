-- What sessions that begin without peers have come to.
use Rattle.ui_engine.specs.SessionView.{SessionState}
use Rattle.c_sessions.specs.RunStates.{reached}
use Rattle.c_sessions.specs.declared.hosted_session.HostedSession.{HostedSession}

-- what a session has come to
abbrev pub held : HostedSession → SessionState
held h = reached h.running
