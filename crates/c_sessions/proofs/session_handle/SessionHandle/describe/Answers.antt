use Rattle.std.proofs.Common.{◌≡◌, subst}
use Rattle.std.specs.Prelude.{IfOk, option_map, string_bytes}
use Rattle.c_sessions.specs.Told.{Tells, object_told}
use Rattle.c_sessions.specs.declared.hosted_session.HostedSession.{HostedSession}
use Rattle.c_sessions.proofs.session_handle.SessionHandle.describe.Goals as goal

pub returns : goal.returns
returns c =
    subst (λ before. Tells (object_told c.args.object) before c.args.out.now c.tell_text.result c.put.new.self.kept.session c.tell_text.new.out) c.in-Some.ensures.taken (
      c.put.ensures,
      c.tell_text.ensures (object_told c.args.object c.in-Some.session.value)
          (subst (λ (h : HostedSession). IfOk c.object_text-text.result (λ t. option_map string_bytes t ≡ object_told c.args.object h)) c.deref.ensures c.object_text-text.ensures),
    )
