use Rattle.std.proofs.Common.{◌≡◌, ap, sym, subst, ◌∙◌}
use Rattle.ui_machine.specs.Prefix.{IsPrefix}
use Rattle.law_steps.specs.Served.Sessions.{EventRead}
use Rattle.definition_format.specs.Meaning.{event_of}
use Rattle.native_peers.specs.StandIns.{stand_ins}
use Rattle.ui_engine.specs.SessionView.{AnswersEvent, state_at}
use Rattle.c_sessions.specs.Nobody.{nobody}
use Rattle.c_sessions.specs.Keeping.{KeepsEvent}
use Rattle.c_sessions.specs.RunStates.{RunState, reached}
use Rattle.c_sessions.proofs.Parts.{answers_stopped, course_stops, nothing_kept, same_lines}
use Rattle.c_sessions.proofs.running.Running.dispatch.Goals as goal

pub returns-then-is_some-clause-answers : goal.returns-then-is_some-clause-answers
returns-then-is_some-clause-answers c =
    let inside = c.self.inside in
    answers_stopped c.args.self.now.core.stopped (reached c.args.self.now) (event_of c.args.event)
    (sym (ap (λ (r : RunState). r.core.stopped) c.self.view_is)
    ∙ course_stops inside.course (stand_ins inside.session.pool) inside.session.core c.self.invariant (sym c.is_some.ensures ∙ c.if-is_some.true))

pub returns-then-is_some-clause-keeps : goal.returns-then-is_some-clause-keeps
returns-then-is_some-clause-keeps c goes none =
    let inside = c.self.inside in
    let stopped =
    sym (ap (λ (r : RunState). r.core.stopped) c.self.view_is)
    ∙ course_stops inside.course (stand_ins inside.session.pool) inside.session.core c.self.invariant (sym c.is_some.ensures ∙ c.if-is_some.true) in
    absurd (cc (sym stopped ∙ goes))

pub returns-then-is_some-clause-grows : goal.returns-then-is_some-clause-grows
returns-then-is_some-clause-grows c = same_lines c.args.self.now.core.world.transcript

pub dispatch-requires : goal.dispatch-requires
dispatch-requires c = record { read = subst (λ (r : RunState). EventRead r.core.definition (event_of c.args.event)) (sym c.self.view_is) c.requires.read }

pub invariant_of-self : goal.invariant_of-self
invariant_of-self c =
    nothing_kept c.self.inside.course (stand_ins c.dispatch.new.self.pool) c.dispatch.new.self.core (sym c.is_some.ensures ∙ c.if-is_some.false)

pub returns-clause-answers : goal.returns-clause-answers
returns-clause-answers c =
    subst (λ (r : RunState). AnswersEvent nobody r.core.stopped c.dispatch.result (reached r) (event_of c.args.event) (state_at (stand_ins c.dispatch.new.self.pool) c.dispatch.new.self.core))
    c.self.view_is c.dispatch.ensures.answers

pub returns-clause-keeps : goal.returns-clause-keeps
returns-clause-keeps c = subst (λ (r : RunState). KeepsEvent (event_of c.args.event) (reached r)) c.self.view_is c.dispatch.ensures.keeps

pub returns-clause-course : goal.returns-clause-course
returns-clause-course c = ap (λ (r : RunState). r.course) c.self.view_is

pub returns-clause-grows : goal.returns-clause-grows
returns-clause-grows c = subst (λ (r : RunState). IsPrefix r.core.world.transcript c.dispatch.new.self.core.world.transcript) c.self.view_is c.dispatch.ensures.grows
