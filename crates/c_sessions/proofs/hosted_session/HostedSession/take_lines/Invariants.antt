use Rattle.std.proofs.Common.{◌≡◌, ◌++◌, ◌≤◌, drop, length, take}
use Rattle.c_sessions.specs.Unread.{unread}
use Rattle.c_sessions.proofs.hosted_session.HostedSession.take_lines.Given as goal

abbrev pub invariant-room : goal.invariant-room
invariant-room l = record {
  long : length l.out ≡ length l.fn.out;
  within : l.place ≤ length (unread l.fn.self);
  taken : l.out ≡ take l.place (unread l.fn.self) ++ drop l.place l.fn.out;
  left : unread l.self ≡ drop l.place (unread l.fn.self);
  running : l.self.running ≡ l.fn.self.running;
}
