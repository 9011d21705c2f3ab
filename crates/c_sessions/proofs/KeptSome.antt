-- What is kept is something.
use Rattle.std.proofs.Common.{◌≡◌, Option, None, Some, true, refl, sym, true≢false}
use Rattle.c_sessions.specs.declared.hosted_session.HostedSession.{HostedSession}
use Rattle.c_sessions.specs.Held.{is_kept}

pub kept_some : (o : Option HostedSession) → is_kept o ≡ true → (x : HostedSession) × (o ≡ Some x)
kept_some None e = absurd (true≢false (sym e))
kept_some (Some x) e = (x, refl)
