use Rattle.std.proofs.Common.{◌≡◌, false, Ok, Err, Result, ap, subst, sym, ◌∙◌}
use Rattle.std.specs.Prelude.{IfErr}
use Rattle.c_sessions.specs.LineBeginnings.{BeginsLine, LeavesBy}
use Rattle.c_sessions.specs.RunStates.{is_under_way}
use Rattle.c_sessions.specs.declared.faults.HostedFault.{HostedFault}
use Rattle.c_sessions.specs.declared.hosted_session.HostedSession.{HostedSession}
use Rattle.c_sessions.proofs.Keeping.{keeps_started, keeps_failed, keeps_busy}
use Rattle.c_sessions.proofs.Handling.{begins_done, begins_not, is_busy}
use Rattle.c_sessions.proofs.session_handle.SessionHandle.begin.Goals as goal

pub returns-then-is_under_way-clause-ends : goal.returns-then-is_under_way-clause-ends
returns-then-is_under_way-clause-ends c = (
  is_busy c.args.self.now.kept.session c.put.new.self.kept.session c.in-Some.session.value c.deref.result.now c.deref.ensures c.in-Some.ensures.taken c.put.ensures
      (sym c.is_under_way.ensures ∙ c.if-is_under_way.true),
  c.write_text-then-is_under_way.ensures,
)

pub returns-in-Ok-clause-ends : goal.returns-in-Ok-clause-ends
returns-in-Ok-clause-ends c =
    let heard = c.begin_line-outcome in
    let lent = c.deref_mut.result.now in
    let rests : is_under_way lent.running ≡ false =
    ap (λ (h : HostedSession). is_under_way h.running) (c.deref_mut.ensures.value ∙ sym c.deref.ensures) ∙ sym c.is_under_way.ensures ∙ c.if-is_under_way.false in
    let begins = subst (λ (r : Result (Unit {0}) HostedFault). BeginsLine (is_under_way lent.running) r c.args.line.now lent.running heard.new.self.running) c.in-Ok.is heard.ensures.begins in
    begins_done c.args.self.now.kept.session c.put-2.new.self.kept.session c.in-Some.session.value lent c.deref_mut.ensures.value c.in-Some.ensures.taken
    c.args.line.now c.args.refusal.now c.write_text-in-Ok.new.buffer heard.new.self c.put-2.ensures rests begins heard.ensures.grows heard.ensures.unread heard.ensures.stays
    c.write_text-in-Ok.ensures c.is_under_way-goes_on.result
    (c.is_under_way-goes_on.ensures ∙ ap (λ (h : HostedSession). is_under_way h.running) c.deref-2.ensures) c.status_of_part.result c.status_of_part.ensures

pub returns-in-Err-clause-ends : goal.returns-in-Err-clause-ends
returns-in-Err-clause-ends c =
    let heard = c.begin_line-outcome in
    let lent = c.deref_mut.result.now in
    let fault = c.in-Err.fault in
    let rests : is_under_way lent.running ≡ false =
    ap (λ (h : HostedSession). is_under_way h.running) (c.deref_mut.ensures.value ∙ sym c.deref.ensures) ∙ sym c.is_under_way.ensures ∙ c.if-is_under_way.false in
    let begins = subst (λ (r : Result (Unit {0}) HostedFault). BeginsLine (is_under_way lent.running) r c.args.line.now lent.running heard.new.self.running) c.in-Err.is heard.ensures.begins in
    begins_not c.args.self.now.kept.session c.put-2.new.self.kept.session c.in-Some.session.value lent c.deref_mut.ensures.value c.in-Some.ensures.taken
    c.args.line.now c.args.refusal.now c.report.new.refusal heard.new.self fault c.put-2.ensures rests begins heard.ensures.unread heard.ensures.stays
    (subst (λ (r : Result (Unit {0}) HostedFault). IfErr r (λ (f : HostedFault). LeavesBy f lent.running heard.new.self.running)) c.in-Err.is heard.ensures.leaves)
    c.report.result c.report.ensures

pub returns-in-Ok-clause-keeps : goal.returns-in-Ok-clause-keeps
returns-in-Ok-clause-keeps c =
    let heard = c.begin_line-outcome in
    keeps_started c.args.line.now c.args.self.now.kept.session c.in-Some.session.value c.deref_mut.result.now c.deref_mut.ensures.value c.in-Some.ensures.taken heard.result c.in-Ok.is heard.ensures.keeps
    c.status_of_part.result c.is_under_way-goes_on.result c.status_of_part.ensures

pub returns-in-Err-clause-keeps : goal.returns-in-Err-clause-keeps
returns-in-Err-clause-keeps c =
    let heard = c.begin_line-outcome in
    keeps_failed c.args.line.now c.args.self.now.kept.session c.in-Some.session.value c.deref_mut.result.now c.deref_mut.ensures.value c.in-Some.ensures.taken
    c.args.refusal.now c.report.new.refusal heard.result c.in-Err.fault c.in-Err.is heard.ensures.keeps c.report.result c.report.ensures

pub returns-then-is_under_way-clause-keeps : goal.returns-then-is_under_way-clause-keeps
returns-then-is_under_way-clause-keeps c = keeps_busy c.args.line.now c.args.self.now.kept.session c.in-Some.session.value c.in-Some.ensures.taken
