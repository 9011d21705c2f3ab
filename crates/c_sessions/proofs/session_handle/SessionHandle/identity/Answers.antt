use Rattle.std.proofs.Common.{◌≡◌, subst}
use Rattle.instance_tables.specs.Store.{id_of}
use Rattle.c_sessions.specs.Told.{Finds, identity_told}
use Rattle.c_sessions.specs.declared.hosted_session.HostedSession.{HostedSession}
use Rattle.c_sessions.proofs.session_handle.SessionHandle.identity.Goals as goal

pub returns : goal.returns
returns c =
    subst (λ before. Finds c.args.id.now before c.number_of.result c.put.new.self.kept.session) c.in-Some.ensures.taken (
      c.identity-identity.result,
      c.number_of.ensures,
      (λ utf8. subst (λ (h : HostedSession). id_of c.identity-identity.result ≡ identity_told c.args.id.now h) c.deref.ensures (c.identity-identity.ensures.utf8 utf8)),
      c.identity-identity.ensures.other,
      c.put.ensures,
    )
