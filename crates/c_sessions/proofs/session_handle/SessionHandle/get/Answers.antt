use Rattle.std.proofs.Common.{◌≡◌, subst}
use Rattle.std.specs.Prelude.{IfOk, option_map, string_bytes}
use Rattle.c_sessions.specs.Told.{Tells, value_told}
use Rattle.c_sessions.specs.declared.hosted_session.HostedSession.{HostedSession}
use Rattle.c_sessions.proofs.Telling.{tells_by_name}
use Rattle.c_sessions.proofs.session_handle.SessionHandle.get.Goals as goal

pub returns : goal.returns
returns c =
    let property = c.args.property.now in
    subst (λ before. Tells (value_told c.args.object property) before c.args.out.now c.tell_text.result c.put.new.self.kept.session c.tell_text.new.out) c.in-Some.ensures.taken (
      c.put.ensures,
      tells_by_name (value_told c.args.object property c.in-Some.session.value) property c.value_text-text.result c.args.out.now c.tell_text.result c.tell_text.new.out
          (λ utf8. subst (λ (h : HostedSession). IfOk c.value_text-text.result (λ t. option_map string_bytes t ≡ value_told c.args.object property h)) c.deref.ensures (c.value_text-text.ensures.utf8 utf8))
          c.value_text-text.ensures.other c.tell_text.ensures,
    )
