use Rattle.std.proofs.Common.{subst}
use Rattle.instance_tables.specs.Store.{IsNextLiving, id_of}
use Rattle.c_sessions.specs.Told.{FindsNext}
use Rattle.c_sessions.specs.declared.hosted_session.HostedSession.{HostedSession}
use Rattle.c_sessions.proofs.session_handle.SessionHandle.next_object.Goals as goal

pub returns : goal.returns
returns c =
    subst (λ before. FindsNext c.args.from before c.number_of.result c.put.new.self.kept.session) c.in-Some.ensures.taken (
      c.next_object-next.result,
      c.number_of.ensures,
      subst (λ (h : HostedSession). IsNextLiving h.running.core.world.objects c.args.from (id_of c.next_object-next.result)) c.deref.ensures c.next_object-next.ensures,
      c.put.ensures,
    )
