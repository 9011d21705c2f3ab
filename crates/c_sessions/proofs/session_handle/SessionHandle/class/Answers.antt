use Rattle.std.proofs.Common.{◌≡◌, subst}
use Rattle.std.specs.Prelude.{IfOk, option_map, string_bytes}
use Rattle.c_sessions.specs.Told.{Tells, class_told}
use Rattle.c_sessions.specs.declared.hosted_session.HostedSession.{HostedSession}
use Rattle.c_sessions.proofs.Telling.{tells_by_name}
use Rattle.c_sessions.proofs.session_handle.SessionHandle.class.Goals as goal

pub returns : goal.returns
returns c =
    let name = c.args.name.now in
    subst (λ before. Tells (class_told name) before c.args.out.now c.tell_text.result c.put.new.self.kept.session c.tell_text.new.out) c.in-Some.ensures.taken (
      c.put.ensures,
      tells_by_name (class_told name c.in-Some.session.value) name c.class_text-text.result c.args.out.now c.tell_text.result c.tell_text.new.out
          (λ utf8. subst (λ (h : HostedSession). IfOk c.class_text-text.result (λ t. option_map string_bytes t ≡ class_told name h)) c.deref.ensures (c.class_text-text.ensures.utf8 utf8))
          c.class_text-text.ensures.other c.tell_text.ensures,
    )
