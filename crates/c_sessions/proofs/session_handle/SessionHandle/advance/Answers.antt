use Rattle.std.proofs.Common.{◌≡◌, true, refl, ap, subst, sym, ◌∙◌}
use Rattle.c_sessions.specs.Courses.{Advances}
use Rattle.c_sessions.specs.Handles.{status_of_part}
use Rattle.c_sessions.specs.RunStates.{is_under_way}
use Rattle.c_sessions.specs.declared.hosted_session.HostedSession.{HostedSession}
use Rattle.c_sessions.proofs.Handling.{keeps_advancing, rests_still}
use Rattle.c_sessions.proofs.session_handle.SessionHandle.advance.Goals as goal

pub returns-then-not-is_under_way : goal.returns-then-not-is_under_way
returns-then-not-is_under_way c =
    rests_still c.args.self.now.kept.session c.put.new.self.kept.session c.in-Some.session.value c.deref.result.now c.deref.ensures c.in-Some.ensures.taken c.args.most _ c.put.ensures
    (sym c.is_under_way.ensures ∙ c.if-not-is_under_way.true) refl

pub returns : goal.returns
returns c =
    let went = c.advance-result in
    let lent = c.deref_mut.result.now in
    let goes : is_under_way lent.running ≡ true =
    ap (λ (h : HostedSession). is_under_way h.running) (c.deref_mut.ensures.value ∙ sym c.deref.ensures) ∙ sym c.is_under_way.ensures ∙ c.if-not-is_under_way.false in
    keeps_advancing c.args.self.now.kept.session c.put-2.new.self.kept.session c.in-Some.session.value lent c.deref_mut.ensures.value c.in-Some.ensures.taken c.args.most went.result c.status_of_part.result went.new.self c.put-2.ensures goes
    (subst (λ b. Advances b went.result c.args.most lent.running went.new.self.running) goes went.ensures.advances)
    (c.status_of_part.ensures ∙ ap (status_of_part went.result) (c.is_under_way-goes_on.ensures ∙ ap (λ (h : HostedSession). is_under_way h.running) c.deref-2.ensures)) went.ensures.unread
