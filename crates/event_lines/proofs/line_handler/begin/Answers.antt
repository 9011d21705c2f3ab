use Rattle.std.proofs.Common.{◌≡◌, Ok, subst}
use Rattle.std.proofs.lemmas.Result.{err_from_is_err_and}
use Rattle.ui_machine.specs.Definition.{Definition}
use Rattle.definition_format.specs.Meaning.{event_of}
use Rattle.builder_defs.specs.EventMeaning.{event_denoted, Fails}
use Rattle.law_steps.specs.Served.Sessions.{EventRead}
use Rattle.event_lines.proofs.EventLemmas.{begun, halted, unread}
use Rattle.event_lines.proofs.line_handler.begin.Goals as goal

pub begin-requires : goal.begin-requires
begin-requires g c = record { read = subst (λ (d : Definition). EventRead d (event_of c.in_ok-event.event)) c.definition-definition.ensures c.in_ok-event.ensures.read }

pub returns-in_err-event-clause-begins : goal.returns-in_err-event-clause-begins
returns-in_err-event-clause-begins g c =
    let may = g.P.Peers.relations c.args.session.now.pool in
    let pool = g.P.Peers.seen c.args.session.now.pool in
    let p = err_from_is_err_and c.from_residual.result c.from_residual.ensures.1 in
    let line = c.args.line.now in
    let fails = subst (λ (d : Definition). Fails c.in_err-event.field-0.0 (event_denoted d line)) c.definition-definition.ensures c.in_err-event.ensures.exact in
    rw (p.1, p.2) (unread may pool c.args.session.now.core line c.in_err-event.field-0.0 fails)

pub returns-clause-begins : goal.returns-clause-begins
returns-clause-begins g c =
    let may = g.P.Peers.relations c.args.session.now.pool in
    let pool = g.P.Peers.seen c.args.session.now.pool in
    let line = c.args.line.now in
    let denotes = subst (λ (d : Definition). event_denoted d line ≡ Ok (event_of c.in_ok-event.event)) c.definition-definition.ensures c.in_ok-event.ensures.exact in
    begun may pool c.args.session.now.core line (event_of c.in_ok-event.event) denotes c.in_ok-progress.progress c.begin.new.self.core c.in_ok-progress.ensures.begins

pub returns-in_err-progress-clause-begins : goal.returns-in_err-progress-clause-begins
returns-in_err-progress-clause-begins g c =
    let may = g.P.Peers.relations c.args.session.now.pool in
    let pool = g.P.Peers.seen c.args.session.now.pool in
    let p = err_from_is_err_and c.from_residual-in_err-progress.result c.from_residual-in_err-progress.ensures.1 in
    let line = c.args.line.now in
    let denotes = subst (λ (d : Definition). event_denoted d line ≡ Ok (event_of c.in_ok-event.event)) c.definition-definition.ensures c.in_ok-event.ensures.exact in
    rw (p.1, p.2)
    (halted may pool c.args.session.now.core line (event_of c.in_ok-event.event) denotes c.begin.new.self.core c.in_err-progress.ensures.grows c.in_err-progress.field-0.0 c.in_err-progress.ensures.begins)
