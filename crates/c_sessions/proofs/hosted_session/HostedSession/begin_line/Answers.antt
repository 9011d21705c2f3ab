use Rattle.std.proofs.Common.{◌≡◌, Err, List, Ok, ap, subst, sym, ◌∙◌}
use Rattle.std.proofs.lemmas.Result.{err_from_is_err_and}
use Rattle.ui_machine.specs.Definition.{Definition}
use Rattle.law_steps.specs.Served.Sessions.{EventRead}
use Rattle.definition_format.specs.Meaning.{event_of}
use Rattle.builder_defs.specs.EventMeaning.{Fails, event_denoted}
use Rattle.native_peers.specs.Seen.{Seen}
use Rattle.ui_engine.specs.SessionView.{SessionState, state_at}
use Rattle.c_sessions.specs.Nobody.{nobody}
use Rattle.c_sessions.specs.Reached.{held}
use Rattle.c_sessions.specs.Unread.{unread}
use Rattle.c_sessions.proofs.Keeping.{keeps_line, keeps_stopped, keeps_unread, keeps_unserved}
use Rattle.c_sessions.proofs.LineParts.{begins_busy, begun_line, leaves_unbegun, leaves_unread, no_course, none_since, unbegun_line, unread_line}
use Rattle.c_sessions.proofs.Parts.{begins_stays}
use Rattle.c_sessions.proofs.Streams.{left_after, place_after}
use Rattle.c_sessions.proofs.hosted_session.HostedSession.begin_line.Goals as goal

pub returns-then-is_under_way-clause-keeps : goal.returns-then-is_under_way-clause-keeps
returns-then-is_under_way-clause-keeps c =
    keeps_stopped c.args.line.now (held c.args.self.now) (c.is_under_way.ensures.stops (sym c.is_under_way.ensures.answer ∙ c.if-is_under_way.true))

pub returns-then-is_under_way-clause-begins : goal.returns-then-is_under_way-clause-begins
returns-then-is_under_way-clause-begins c = begins_busy _ c.args.line.now c.args.self.now.running (sym c.is_under_way.ensures.answer ∙ c.if-is_under_way.true)

pub returns-then-is_under_way-clause-leaves : goal.returns-then-is_under_way-clause-leaves
returns-then-is_under_way-clause-leaves c = c.is_under_way.ensures.stops (sym c.is_under_way.ensures.answer ∙ c.if-is_under_way.true)

pub returns-then-is_under_way-clause-unread : goal.returns-then-is_under_way-clause-unread
returns-then-is_under_way-clause-unread c = none_since (unread c.args.self.now) c.args.self.now.running.core.world.transcript

pub returns-in_err-event-clause-keeps : goal.returns-in_err-event-clause-keeps
returns-in_err-event-clause-keeps c =
    let p = err_from_is_err_and c.from_residual.result c.from_residual.ensures.1 in
    let line = c.args.line.now in
    let fails = subst (λ (d : Definition). Fails c.in_err-event.field-0.0 (event_denoted d line)) c.definition-definition.ensures c.in_err-event.ensures.exact in
    rw (p.1, p.2) (keeps_unread line (held c.args.self.now) c.in_err-event.field-0.0 fails)

pub returns-in_err-event-clause-begins : goal.returns-in_err-event-clause-begins
returns-in_err-event-clause-begins c =
    let p = err_from_is_err_and c.from_residual.result c.from_residual.ensures.1 in
    let line = c.args.line.now in
    let old = c.args.self.now.running in
    let rests = sym c.is_under_way.ensures.answer ∙ c.if-is_under_way.false in
    let fails = subst (λ (d : Definition). Fails c.in_err-event.field-0.0 (event_denoted d line)) c.definition-definition.ensures c.in_err-event.ensures.exact in
    rw (p.1, p.2, rests) (unread_line old line c.in_err-event.field-0.0 fails, no_course old rests)

pub returns-in_err-event-clause-leaves : goal.returns-in_err-event-clause-leaves
returns-in_err-event-clause-leaves c =
    let p = err_from_is_err_and c.from_residual.result c.from_residual.ensures.1 in
    rw (p.1, p.2) (leaves_unread c.in_err-event.field-0.0 c.args.self.now.running)

pub returns-in_err-event-clause-unread : goal.returns-in_err-event-clause-unread
returns-in_err-event-clause-unread c = none_since (unread c.args.self.now) c.args.self.now.running.core.world.transcript

pub begin-requires : goal.begin-requires
begin-requires c = record { read = subst (λ (d : Definition). EventRead d (event_of c.in_ok-event.event)) c.definition-definition.ensures c.in_ok-event.ensures.read }

pub invariant_of-self-2 : goal.invariant_of-self-2
invariant_of-self-2 c = record {
  place = place_after c.args.self.now.running.core.world.transcript c.begin.new.self.core.world.transcript c.args.self.now.line c.args.self.now.byte c.args.self.now.place c.begin.ensures.grows;
}

pub returns-in_err-begin-clause-keeps : goal.returns-in_err-begin-clause-keeps
returns-in_err-begin-clause-keeps c =
    let p = err_from_is_err_and c.from_residual-in_err-begin.result c.from_residual-in_err-begin.ensures.1 in
    let line = c.args.line.now in
    let denotes = subst (λ (d : Definition). event_denoted d line ≡ Ok (event_of c.in_ok-event.event)) c.definition-definition.ensures c.in_ok-event.ensures.exact in
    let s = held c.args.self.now in
    rw (p.1, p.2) (keeps_unserved line s c.in_err-begin.field-0.0 (keeps_line line s (event_of c.in_ok-event.event) denotes c.in_err-begin.ensures.keeps))

pub returns-in_err-begin-clause-begins : goal.returns-in_err-begin-clause-begins
returns-in_err-begin-clause-begins c =
    let p = err_from_is_err_and c.from_residual-in_err-begin.result c.from_residual-in_err-begin.ensures.1 in
    let line = c.args.line.now in
    let old = c.args.self.now.running in
    let rests = sym c.is_under_way.ensures.answer ∙ c.if-is_under_way.false in
    let denotes = subst (λ (d : Definition). event_denoted d line ≡ Ok (event_of c.in_ok-event.event)) c.definition-definition.ensures c.in_ok-event.ensures.exact in
    let b = c.in_err-begin.ensures.begins in
    rw (p.1, p.2, rests) (unbegun_line old c.begin.new.self line (event_of c.in_ok-event.event) denotes c.in_err-begin.ensures.grows b.1 c.in_err-begin.field-0.0 b.0, b.2 ∙ no_course old rests)

pub returns-in_err-begin-clause-leaves : goal.returns-in_err-begin-clause-leaves
returns-in_err-begin-clause-leaves c =
    let p = err_from_is_err_and c.from_residual-in_err-begin.result c.from_residual-in_err-begin.ensures.1 in
    let b = c.in_err-begin.ensures.begins in
    rw (p.1, p.2) (leaves_unbegun c.args.self.now.running c.begin.new.self (event_of c.in_ok-event.event) c.in_err-begin.field-0.0 b.1 b.0)

pub returns-in_err-begin-clause-stays : goal.returns-in_err-begin-clause-stays
returns-in_err-begin-clause-stays c stopped =
    let old = c.args.self.now.running in
    let b = c.in_err-begin.ensures.begins in
    ap (λ (s : SessionState). state_at c.begin.new.self.pool s) (begins_stays nobody old.core.stopped (Err c.in_err-begin.field-0.0) old.pool old.core (event_of c.in_ok-event.event) c.begin.new.self.core b.0 stopped)
    ∙ ap (λ (p : List Seen). state_at p old.core) b.1

pub returns-in_err-begin-clause-unread : goal.returns-in_err-begin-clause-unread
returns-in_err-begin-clause-unread c =
    let old = c.args.self.now in left_after old.running.core.world.transcript c.begin.new.self.core.world.transcript old.line old.byte old.place c.in_err-begin.ensures.grows

pub returns-clause-keeps : goal.returns-clause-keeps
returns-clause-keeps c =
    let line = c.args.line.now in
    let denotes = subst (λ (d : Definition). event_denoted d line ≡ Ok (event_of c.in_ok-event.event)) c.definition-definition.ensures c.in_ok-event.ensures.exact in
    keeps_line line (held c.args.self.now) (event_of c.in_ok-event.event) denotes c.in_ok-begin.ensures.keeps

pub returns-clause-begins : goal.returns-clause-begins
returns-clause-begins c =
    let line = c.args.line.now in
    let rests = sym c.is_under_way.ensures.answer ∙ c.if-is_under_way.false in
    let denotes = subst (λ (d : Definition). event_denoted d line ≡ Ok (event_of c.in_ok-event.event)) c.definition-definition.ensures c.in_ok-event.ensures.exact in
    rw rests (begun_line c.args.self.now.running c.begin.new.self line (event_of c.in_ok-event.event) denotes c.in_ok-begin.ensures.begins)

pub returns-clause-stays : goal.returns-clause-stays
returns-clause-stays c stopped =
    let old = c.args.self.now.running in
    let b = c.in_ok-begin.ensures.begins in
    ap (λ (s : SessionState). state_at c.begin.new.self.pool s) (begins_stays nobody old.core.stopped (Ok b.progress) old.pool old.core (event_of c.in_ok-event.event) c.begin.new.self.core b.begins stopped)
    ∙ ap (λ (p : List Seen). state_at p old.core) b.pool

pub returns-clause-unread : goal.returns-clause-unread
returns-clause-unread c =
    let old = c.args.self.now in left_after old.running.core.world.transcript c.begin.new.self.core.world.transcript old.line old.byte old.place c.in_ok-begin.ensures.grows
