use Rattle.std.proofs.Common.{◌≡◌, false, Err, Ok, Result, ap, subst, sym, ◌∙◌}
use Rattle.std.specs.Prelude.{IfErr, is_some}
use Rattle.event_lines.specs.EventFileRun.{said}
use Rattle.c_sessions.specs.Faults.{outcome_here}
use Rattle.c_sessions.specs.LineBeginnings.{LeavesBy}
use Rattle.c_sessions.specs.RunStates.{is_under_way}
use Rattle.c_sessions.specs.declared.faults.HostedFault.{HostedFault}
use Rattle.c_sessions.specs.declared.hosted_session.HostedSession.{HostedSession}
use Rattle.c_sessions.proofs.Keeping.{keeps_done, keeps_failed, keeps_busy}
use Rattle.c_sessions.proofs.Handling.{dispatches_failed, hears_by, is_busy, keeps_hearing}
use Rattle.c_sessions.proofs.session_handle.SessionHandle.dispatch.Goals as goal

pub returns-then-is_under_way-clause-ends : goal.returns-then-is_under_way-clause-ends
returns-then-is_under_way-clause-ends c = (
  is_busy c.args.self.now.kept.session c.put.new.self.kept.session c.in-Some.session.value c.deref.result.now c.deref.ensures c.in-Some.ensures.taken c.put.ensures
      (sym c.is_under_way.ensures ∙ c.if-is_under_way.true),
  c.write_text-then-is_under_way.ensures,
)

pub returns-in-Ok-clause-ends : goal.returns-in-Ok-clause-ends
returns-in-Ok-clause-ends c =
    let heard = c.dispatch_line-outcome in
    let lent = c.deref_mut.result.now in
    let rests : is_under_way lent.running ≡ false =
    ap (λ (h : HostedSession). is_under_way h.running) (c.deref_mut.ensures.value ∙ sym c.deref.ensures) ∙ sym c.is_under_way.ensures ∙ c.if-is_under_way.false in (
      keeps_hearing c.args.line.now said (λ before after. Unit {0}) c.args.self.now.kept.session c.put-2.new.self.kept.session c.in-Some.session.value lent heard.new.self c.deref_mut.ensures.value c.in-Some.ensures.taken
          c.put-2.ensures rests (ap is_some heard.ensures.course ∙ rests)
          (hears_by c.args.line.now heard.result (Ok tt) lent heard.new.self c.in-Ok.is heard.ensures.replies heard.ensures.unread heard.ensures.stays) tt,
      c.write_text-in-Ok.ensures,
    )

pub returns-in-Err-clause-ends : goal.returns-in-Err-clause-ends
returns-in-Err-clause-ends c =
    let heard = c.dispatch_line-outcome in
    let lent = c.deref_mut.result.now in
    let fault = c.in-Err.fault in
    let rests : is_under_way lent.running ≡ false =
    ap (λ (h : HostedSession). is_under_way h.running) (c.deref_mut.ensures.value ∙ sym c.deref.ensures) ∙ sym c.is_under_way.ensures ∙ c.if-is_under_way.false in
    dispatches_failed c.args.line.now c.args.refusal.now fault c.args.self.now.kept.session c.put-2.new.self.kept.session c.report.result c.report.new.refusal
    (keeps_hearing c.args.line.now (outcome_here (Err fault)) (λ before after. LeavesBy fault before.running after.running) c.args.self.now.kept.session c.put-2.new.self.kept.session c.in-Some.session.value lent heard.new.self
    c.deref_mut.ensures.value c.in-Some.ensures.taken c.put-2.ensures rests (ap is_some heard.ensures.course ∙ rests)
    (hears_by c.args.line.now heard.result (Err fault) lent heard.new.self c.in-Err.is heard.ensures.replies heard.ensures.unread heard.ensures.stays)
    (subst (λ (r : Result (Unit {0}) HostedFault). IfErr r (λ (f : HostedFault). LeavesBy f lent.running heard.new.self.running)) c.in-Err.is heard.ensures.leaves))
    c.report.ensures

pub returns-in-Ok-clause-keeps : goal.returns-in-Ok-clause-keeps
returns-in-Ok-clause-keeps c =
    let heard = c.dispatch_line-outcome in
    keeps_done c.args.line.now c.args.self.now.kept.session c.in-Some.session.value c.deref_mut.result.now c.deref_mut.ensures.value c.in-Some.ensures.taken heard.result c.in-Ok.is heard.ensures.keeps

pub returns-in-Err-clause-keeps : goal.returns-in-Err-clause-keeps
returns-in-Err-clause-keeps c =
    let heard = c.dispatch_line-outcome in
    keeps_failed c.args.line.now c.args.self.now.kept.session c.in-Some.session.value c.deref_mut.result.now c.deref_mut.ensures.value c.in-Some.ensures.taken
    c.args.refusal.now c.report.new.refusal heard.result c.in-Err.fault c.in-Err.is heard.ensures.keeps c.report.result c.report.ensures

pub returns-then-is_under_way-clause-keeps : goal.returns-then-is_under_way-clause-keeps
returns-then-is_under_way-clause-keeps c = keeps_busy c.args.line.now c.args.self.now.kept.session c.in-Some.session.value c.in-Some.ensures.taken
