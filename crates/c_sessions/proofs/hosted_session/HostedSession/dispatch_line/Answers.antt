use Rattle.std.proofs.Common.{◌≡◌, Err, Ok, ap, subst, sym, ◌∙◌}
use Rattle.std.proofs.lemmas.Result.{err_from_is_err_and}
use Rattle.ui_machine.specs.Definition.{Definition}
use Rattle.law_steps.specs.Served.Sessions.{EventRead}
use Rattle.definition_format.specs.Meaning.{event_of}
use Rattle.builder_defs.specs.EventMeaning.{Fails, event_denoted}
use Rattle.c_sessions.specs.Nobody.{nobody}
use Rattle.c_sessions.specs.Reached.{held}
use Rattle.c_sessions.specs.RunStates.{reached}
use Rattle.c_sessions.specs.Unread.{unread}
use Rattle.c_sessions.proofs.Alone.{says}
use Rattle.c_sessions.proofs.Keeping.{keeps_line, keeps_stopped, keeps_unread, keeps_unserved}
use Rattle.c_sessions.proofs.LineParts.{leaves_unread, leaves_unserved, none_since, unread_line, unserved_line, untouched}
use Rattle.c_sessions.proofs.Parts.{answers_stays}
use Rattle.c_sessions.proofs.Streams.{left_after, place_after}
use Rattle.c_sessions.proofs.hosted_session.HostedSession.dispatch_line.Goals as goal

pub returns-then-is_under_way-clause-keeps : goal.returns-then-is_under_way-clause-keeps
returns-then-is_under_way-clause-keeps c =
    keeps_stopped c.args.line.now (held c.args.self.now) (c.is_under_way.ensures.stops (sym c.is_under_way.ensures.answer ∙ c.if-is_under_way.true))

pub returns-then-is_under_way-clause-replies : goal.returns-then-is_under_way-clause-replies
returns-then-is_under_way-clause-replies c = untouched (held c.args.self.now) c.args.line.now

pub returns-then-is_under_way-clause-leaves : goal.returns-then-is_under_way-clause-leaves
returns-then-is_under_way-clause-leaves c = c.is_under_way.ensures.stops (sym c.is_under_way.ensures.answer ∙ c.if-is_under_way.true)

pub returns-then-is_under_way-clause-unread : goal.returns-then-is_under_way-clause-unread
returns-then-is_under_way-clause-unread c = none_since (unread c.args.self.now) c.args.self.now.running.core.world.transcript

pub returns-in_err-event-clause-keeps : goal.returns-in_err-event-clause-keeps
returns-in_err-event-clause-keeps c =
    let p = err_from_is_err_and c.from_residual.result c.from_residual.ensures.1 in
    let line = c.args.line.now in
    let fails = subst (λ (d : Definition). Fails c.in_err-event.field-0.0 (event_denoted d line)) c.definition-definition.ensures c.in_err-event.ensures.exact in
    rw (p.1, p.2) (keeps_unread line (held c.args.self.now) c.in_err-event.field-0.0 fails)

pub returns-in_err-event-clause-replies : goal.returns-in_err-event-clause-replies
returns-in_err-event-clause-replies c =
    let p = err_from_is_err_and c.from_residual.result c.from_residual.ensures.1 in
    let line = c.args.line.now in
    let fails = subst (λ (d : Definition). Fails c.in_err-event.field-0.0 (event_denoted d line)) c.definition-definition.ensures c.in_err-event.ensures.exact in
    rw (p.1, p.2) (unread_line c.args.self.now.running line c.in_err-event.field-0.0 fails)

pub returns-in_err-event-clause-leaves : goal.returns-in_err-event-clause-leaves
returns-in_err-event-clause-leaves c =
    let p = err_from_is_err_and c.from_residual.result c.from_residual.ensures.1 in
    rw (p.1, p.2) (leaves_unread c.in_err-event.field-0.0 c.args.self.now.running)

pub returns-in_err-event-clause-unread : goal.returns-in_err-event-clause-unread
returns-in_err-event-clause-unread c = none_since (unread c.args.self.now) c.args.self.now.running.core.world.transcript

pub dispatch-requires : goal.dispatch-requires
dispatch-requires c = record { read = subst (λ (d : Definition). EventRead d (event_of c.in_ok-event.event)) c.definition-definition.ensures c.in_ok-event.ensures.read }

pub invariant_of-self-2 : goal.invariant_of-self-2
invariant_of-self-2 c = record {
  place = place_after c.args.self.now.running.core.world.transcript c.dispatch.new.self.core.world.transcript c.args.self.now.line c.args.self.now.byte c.args.self.now.place c.dispatch.ensures.grows;
}

pub returns-in_err-dispatch-clause-keeps : goal.returns-in_err-dispatch-clause-keeps
returns-in_err-dispatch-clause-keeps c =
    let p = err_from_is_err_and c.from_residual-in_err-dispatch.result c.from_residual-in_err-dispatch.ensures.1 in
    let line = c.args.line.now in
    let denotes = subst (λ (d : Definition). event_denoted d line ≡ Ok (event_of c.in_ok-event.event)) c.definition-definition.ensures c.in_ok-event.ensures.exact in
    let s = held c.args.self.now in
    rw (p.1, p.2) (keeps_unserved line s c.in_err-dispatch.field-0.0 (keeps_line line s (event_of c.in_ok-event.event) denotes c.in_err-dispatch.ensures.keeps))

pub returns-in_err-dispatch-clause-replies : goal.returns-in_err-dispatch-clause-replies
returns-in_err-dispatch-clause-replies c =
    let p = err_from_is_err_and c.from_residual-in_err-dispatch.result c.from_residual-in_err-dispatch.ensures.1 in
    let line = c.args.line.now in
    let denotes = subst (λ (d : Definition). event_denoted d line ≡ Ok (event_of c.in_ok-event.event)) c.definition-definition.ensures c.in_ok-event.ensures.exact in
    rw (p.1, p.2)
    (unserved_line c.args.self.now.running c.dispatch.new.self line (event_of c.in_ok-event.event) denotes c.in_err-dispatch.ensures.grows c.in_err-dispatch.field-0.0 c.in_err-dispatch.ensures.answers)

pub returns-in_err-dispatch-clause-leaves : goal.returns-in_err-dispatch-clause-leaves
returns-in_err-dispatch-clause-leaves c =
    let p = err_from_is_err_and c.from_residual-in_err-dispatch.result c.from_residual-in_err-dispatch.ensures.1 in
    rw (p.1, p.2) (leaves_unserved c.args.self.now.running c.dispatch.new.self (event_of c.in_ok-event.event) c.in_err-dispatch.field-0.0 c.in_err-dispatch.ensures.answers)

pub returns-in_err-dispatch-clause-stays : goal.returns-in_err-dispatch-clause-stays
returns-in_err-dispatch-clause-stays c stopped =
    answers_stays nobody c.args.self.now.running.core.stopped (Err c.in_err-dispatch.field-0.0) (held c.args.self.now) (event_of c.in_ok-event.event) (reached c.dispatch.new.self) c.in_err-dispatch.ensures.answers stopped

pub returns-in_err-dispatch-clause-unread : goal.returns-in_err-dispatch-clause-unread
returns-in_err-dispatch-clause-unread c =
    let old = c.args.self.now in left_after old.running.core.world.transcript c.dispatch.new.self.core.world.transcript old.line old.byte old.place c.in_err-dispatch.ensures.grows

pub returns-clause-keeps : goal.returns-clause-keeps
returns-clause-keeps c =
    let line = c.args.line.now in
    let denotes = subst (λ (d : Definition). event_denoted d line ≡ Ok (event_of c.in_ok-event.event)) c.definition-definition.ensures c.in_ok-event.ensures.exact in
    keeps_line line (held c.args.self.now) (event_of c.in_ok-event.event) denotes c.in_ok-dispatch.ensures.keeps

pub returns-clause-replies : goal.returns-clause-replies
returns-clause-replies c =
    let line = c.args.line.now in
    let denotes = subst (λ (d : Definition). event_denoted d line ≡ Ok (event_of c.in_ok-event.event)) c.definition-definition.ensures c.in_ok-event.ensures.exact in
    says (held c.args.self.now) (reached c.dispatch.new.self) line (event_of c.in_ok-event.event) denotes
    c.in_ok-dispatch.ensures.grows c.in_ok-dispatch.field-0 c.in_ok-dispatch.ensures.answers

pub returns-clause-stays : goal.returns-clause-stays
returns-clause-stays c stopped =
    answers_stays nobody c.args.self.now.running.core.stopped (Ok c.in_ok-dispatch.field-0) (held c.args.self.now) (event_of c.in_ok-event.event) (reached c.dispatch.new.self) c.in_ok-dispatch.ensures.answers stopped

pub returns-clause-unread : goal.returns-clause-unread
returns-clause-unread c =
    let old = c.args.self.now in left_after old.running.core.world.transcript c.dispatch.new.self.core.world.transcript old.line old.byte old.place c.in_ok-dispatch.ensures.grows
