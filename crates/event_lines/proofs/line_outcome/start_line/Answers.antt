use Rattle.std.proofs.Common.{◌≡◌, Err, rules, subst, sym}
use Rattle.ui_engine.specs.SessionView.{state_at}
use Rattle.event_lines.specs.EventFileRun.{refused, stopped}
use Rattle.event_lines.specs.Events.{event_replies}
use Rattle.event_lines.specs.LineOutcome.{outcome_of}
use Rattle.event_lines.specs.LineStarts.{since}
use Rattle.event_lines.specs.declared.line_handler.LineFault.{LineFault}
use Rattle.event_lines.specs.declared.line_reader.Found.{Found}
use Rattle.event_lines.specs.declared.line_reader.Found.TheVariants as founds
use Rattle.event_lines.proofs.EventLemmas.{heard, its_own}
use Rattle.event_lines.proofs.line_outcome.start_line.Goals as goal

pub returns-in-Ok-clause-starts : goal.returns-in-Ok-clause-starts
returns-in-Ok-clause-starts g c line is =
    let whole : ◌≡◌ {A = Found} c.args.found founds.Whole = search rules in
    its_own c.args.number c.args.found c.args.buffer.now line whole is c.if-number-gt-MAX_LINES.false (sym c.if-is_blank.ensures)

pub returns-in-Err-Refused-clause-starts : goal.returns-in-Err-Refused-clause-starts
returns-in-Err-Refused-clause-starts g c line is =
    let whole : ◌≡◌ {A = Found} c.args.found founds.Whole = search rules in
    let may = g.P.Peers.relations c.args.session.now.pool in
    let pool = g.P.Peers.seen c.args.session.now.pool in
    let old = c.args.session.now.core in
    let new = c.begin.new.session.core in
    let replies = subst (λ (f : LineFault). event_replies may (state_at pool old) c.args.buffer.now (outcome_of {T = Unit {0}} (Err f) (since old new)) (state_at pool new)) c.in-Err-Refused.field-0-is c.in-Err-Refused.ensures.begins in
    heard may (state_at pool old) (state_at pool new) c.args.number c.args.found c.args.buffer.now line (refused c.in-Err-Refused.refusal) whole is c.if-number-gt-MAX_LINES.false (sym c.if-is_blank.ensures) replies

pub returns-in-Err-Stopped-clause-starts : goal.returns-in-Err-Stopped-clause-starts
returns-in-Err-Stopped-clause-starts g c line is =
    let whole : ◌≡◌ {A = Found} c.args.found founds.Whole = search rules in
    let may = g.P.Peers.relations c.args.session.now.pool in
    let pool = g.P.Peers.seen c.args.session.now.pool in
    let old = c.args.session.now.core in
    let new = c.begin.new.session.core in
    let replies = subst (λ (f : LineFault). event_replies may (state_at pool old) c.args.buffer.now (outcome_of {T = Unit {0}} (Err f) (since old new)) (state_at pool new)) c.in-Err-Stopped.field-0-is c.in-Err-Stopped.ensures.begins in
    heard may (state_at pool old) (state_at pool new) c.args.number c.args.found c.args.buffer.now line (stopped (since old new)) whole is c.if-number-gt-MAX_LINES.false (sym c.if-is_blank.ensures) replies
