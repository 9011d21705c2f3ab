use Rattle.std.proofs.Common.{◌≡◌, false, None, ap, subst, sym, ◌∙◌}
use Rattle.ui_machine.specs.Rules.Events.{refusal}
use Rattle.definition_format.specs.declared.events.Event as code
use Rattle.ui_machine.specs.State.Tasks as config
use Rattle.definition_format.specs.Meaning.{event_of, request_of}
use Rattle.engine_dispatches.specs.PoolView.{world_at}
use Rattle.engine_dispatches.specs.Promises.{EventKeeps}
use Rattle.ui_engine.specs.declared.cores.Phase.{Phase}
use Rattle.ui_engine.specs.Phases.{has_stopped}
use Rattle.ui_engine.specs.SessionView.{BeginsEvent, SessionState}
use Rattle.ui_engine.proofs.InParts.{begins_event}
use Rattle.ui_engine.proofs.Slices.{has_course_begun}
use Rattle.ui_engine.proofs.cores.Core.begin.Goals as goal

pub returns-in-Request-clause-begins : goal.returns-in-Request-clause-begins
returns-in-Request-clause-begins g c =
    let may = g.P.Peers.relations c.args.pool.now in
    let pool = g.P.Peers.seen c.args.pool.now in
    let s = c.args.self.now in
    let goes_on : s.stopped ≡ false = sym (ap (λ (x : SessionState). x.stopped) c.self.view_is) ∙ ap (λ (p : Phase). has_stopped p) c.in-AtRest.is in
    subst (λ (event : code.Event). BeginsEvent may s.stopped c.begin_request.result pool s (event_of event) c.begin_request.new.self) (sym c.in-Request.is)
    (begins_event may c.begin_request.result pool s _ c.begin_request.new.self goes_on c.begin_request.ensures.begins)

pub returns-in-Turn-clause-begins : goal.returns-in-Turn-clause-begins
returns-in-Turn-clause-begins g c =
    let may = g.P.Peers.relations c.args.pool.now in
    let pool = g.P.Peers.seen c.args.pool.now in
    let s = c.args.self.now in
    let goes_on : s.stopped ≡ false = sym (ap (λ (x : SessionState). x.stopped) c.self.view_is) ∙ ap (λ (p : Phase). has_stopped p) c.in-AtRest.is in
    subst (λ (event : code.Event). BeginsEvent may s.stopped c.begin_turn.result pool s (event_of event) c.begin_turn.new.self) (sym c.in-Turn.is)
    (begins_event may c.begin_turn.result pool s _ c.begin_turn.new.self goes_on c.begin_turn.ensures.begins)

pub returns-in-Request-clause-keeps : goal.returns-in-Request-clause-keeps
returns-in-Request-clause-keeps g c _ none =
    let pool = g.P.Peers.seen c.args.pool.now in
    let s = c.args.self.now in
    subst (λ (event : code.Event). refusal s.world (event_of event) ≡ None → EventKeeps s.definition (world_at pool s.world) (event_of event)) (sym c.in-Request.is) c.begin_request.ensures.keeps none

pub returns-in-Turn-clause-keeps : goal.returns-in-Turn-clause-keeps
returns-in-Turn-clause-keeps g c _ none =
    let pool = g.P.Peers.seen c.args.pool.now in
    let s = c.args.self.now in
    subst (λ (event : code.Event). refusal s.world (event_of event) ≡ None → EventKeeps s.definition (world_at pool s.world) (event_of event)) (sym c.in-Turn.is) c.begin_turn.ensures.keeps none

pub returns-in-Request-clause-in_course : goal.returns-in-Request-clause-in_course
returns-in-Request-clause-in_course g c =
    let may = g.P.Peers.relations c.args.pool.now in
    let pool = g.P.Peers.seen c.args.pool.now in
    let s = c.args.self.now in
    let goes_on : s.stopped ≡ false = sym (ap (λ (x : SessionState). x.stopped) c.self.view_is) ∙ ap (λ (p : Phase). has_stopped p) c.in-AtRest.is in
    has_course_begun may pool s (config.request (request_of c.in-Request.request)) s.stopped c.begin_request.result c.begin_request.new.self (begins_event may c.begin_request.result pool s (config.request (request_of c.in-Request.request)) c.begin_request.new.self goes_on c.begin_request.ensures.begins)

pub returns-in-Turn-clause-in_course : goal.returns-in-Turn-clause-in_course
returns-in-Turn-clause-in_course g c =
    let may = g.P.Peers.relations c.args.pool.now in
    let pool = g.P.Peers.seen c.args.pool.now in
    let s = c.args.self.now in
    let goes_on : s.stopped ≡ false = sym (ap (λ (x : SessionState). x.stopped) c.self.view_is) ∙ ap (λ (p : Phase). has_stopped p) c.in-AtRest.is in
    has_course_begun may pool s (config.turn c.in-Turn.moment) s.stopped c.begin_turn.result c.begin_turn.new.self (begins_event may c.begin_turn.result pool s (config.turn c.in-Turn.moment) c.begin_turn.new.self goes_on c.begin_turn.ensures.begins)
