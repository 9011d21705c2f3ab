use Rattle.std.proofs.Common.{Ok, subst}
use Rattle.std.proofs.lemmas.Result.{err_from_is_err_and}
use Rattle.definition_format.specs.Meaning.{event_of}
use Rattle.engine_dispatches.specs.declared.courses.Progress.{Progress}
use Rattle.ui_engine.specs.SessionView.{BeginsEvent}
use Rattle.ui_engine.proofs.InParts.{answers_fault, answers_reply, comes_as, has_ended, made_as, none_as}
use Rattle.ui_engine.proofs.cores.Core.dispatch.Goals as goal

pub returns-in_err-reply-2-clause-answers : goal.returns-in_err-reply-2-clause-answers
returns-in_err-reply-2-clause-answers g c =
    let may = g.P.Peers.relations c.args.pool.now in
    let pool = g.P.Peers.seen c.args.pool.now in
    let s = c.args.self.now in
    let begins = subst (λ (p : Progress). BeginsEvent may s.stopped (Ok p) pool s (event_of c.args.event) c.begin.new.self) c.in-UnderWay.is c.in_ok-reply.ensures.begins in
    let p = err_from_is_err_and c.from_residual-in_err-reply-2.result c.from_residual-in_err-reply-2.ensures.1 in
    rw (p.1, p.2) (answers_fault may pool _ s (event_of c.args.event) s.stopped c.in-UnderWay.course c.begin.new.self c.advance.new.self begins c.in_err-reply-2.field-0.0 c.in_err-reply-2.ensures.comes)

pub returns-clause-answers : goal.returns-clause-answers
returns-clause-answers g c =
    let may = g.P.Peers.relations c.args.pool.now in
    let pool = g.P.Peers.seen c.args.pool.now in
    let s = c.args.self.now in
    let begins = subst (λ (p : Progress). BeginsEvent may s.stopped (Ok p) pool s (event_of c.args.event) c.begin.new.self) c.in-UnderWay.is c.in_ok-reply.ensures.begins in
    answers_reply may pool _ s (event_of c.args.event) s.stopped c.in-UnderWay.course c.begin.new.self c.advance.new.self begins c.in-Ended-2.reply
    (comes_as _ _ c.in-UnderWay.course pool _ c.begin.new.self c.advance.new.self c.in-Ended-2.is c.in_ok-reply-2.ensures.comes)

pub unreachable-requires : goal.unreachable-requires
unreachable-requires g c =
    let may = g.P.Peers.relations c.args.pool.now in
    let pool = g.P.Peers.seen c.args.pool.now in
    let s = c.args.self.now in
    let begins = subst (λ (p : Progress). BeginsEvent may s.stopped (Ok p) pool s (event_of c.args.event) c.begin.new.self) c.in-UnderWay.is c.in_ok-reply.ensures.begins in
    has_ended may pool _ s (event_of c.args.event) s.stopped c.in-UnderWay.course c.begin.new.self c.advance.new.self begins c.in-UnderWay-2.field-0
    (comes_as _ _ c.in-UnderWay.course pool _ c.begin.new.self c.advance.new.self c.in-UnderWay-2.is c.in_ok-reply-2.ensures.comes) (none_as c.begin.new.self.counted c.in-UnderWay.is c.in_ok-reply.ensures.none) (made_as c.advance.new.self.counted _ c.in-UnderWay-2.is c.in_ok-reply-2.ensures.made)
