-- The bytes of a session's lines that were not taken.
use Rattle.std.specs.Prelude.{ℕ, List}
use Rattle.c_sessions.specs.Places.{left_of}
use Rattle.c_sessions.specs.declared.hosted_session.HostedSession.{HostedSession}

-- the bytes of a session's lines that were not taken
abbrev pub unread : HostedSession → List ℕ
unread h = left_of h.running.core.world.transcript h.line h.byte
