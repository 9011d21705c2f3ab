use Rattle.std.proofs.Common.{Some, refl, subst}
use Rattle.ui_engine.specs.Due.{IsNextDue}
use Rattle.c_sessions.specs.Moments.{TellsNext}
use Rattle.c_sessions.specs.declared.hosted_session.HostedSession.{HostedSession}
use Rattle.c_sessions.proofs.session_handle.SessionHandle.next_due.Goals as goal

pub returns : goal.returns
returns c =
    subst (λ before. TellsNext before (Some c.next_due-due.result) c.put.new.self.kept.session) c.in_ok-session.ensures.taken (
      c.next_due-due.result,
      refl,
      subst (λ (h : HostedSession). IsNextDue h.running.core.world c.next_due-due.result) c.deref.ensures c.next_due-due.ensures,
      c.put.ensures,
    )
