use Rattle.std.proofs.Common.{◌≡◌, Ok, ap, refl, sym, subst, ◌∙◌}
use Rattle.std.proofs.lemmas.Result.{err_from_is_err_and}
use Rattle.ui_machine.specs.Prefix.{IsPrefix}
use Rattle.law_steps.specs.Served.Sessions.{EventRead}
use Rattle.definition_format.specs.Meaning.{event_of}
use Rattle.native_peers.specs.StandIns.{stand_ins}
use Rattle.c_sessions.specs.Courses.{BeginsBy}
use Rattle.c_sessions.specs.Keeping.{KeepsEvent}
use Rattle.c_sessions.specs.RunStates.{RunState, reached}
use Rattle.c_sessions.proofs.Parts.{begins_stopped, course_of, course_stops, nothing_kept, same_lines}
use Rattle.c_sessions.proofs.running.Running.begin.Goals as goal

pub returns-then-is_some-clause-begins : goal.returns-then-is_some-clause-begins
returns-then-is_some-clause-begins c =
    let inside = c.self.inside in (
      begins_stopped c.args.self.now.core.stopped c.args.self.now.pool c.args.self.now.core (event_of c.args.event)
          (sym (ap (λ (r : RunState). r.core.stopped) c.self.view_is)
          ∙ course_stops inside.course (stand_ins inside.session.pool) inside.session.core c.self.invariant (sym c.is_some.ensures ∙ c.if-is_some.true)),
      refl,
      refl,
    )

pub returns-then-is_some-clause-grows : goal.returns-then-is_some-clause-grows
returns-then-is_some-clause-grows c = same_lines c.args.self.now.core.world.transcript

pub returns-then-is_some-clause-keeps : goal.returns-then-is_some-clause-keeps
returns-then-is_some-clause-keeps c goes none =
    let inside = c.self.inside in
    let stopped =
    sym (ap (λ (r : RunState). r.core.stopped) c.self.view_is)
    ∙ course_stops inside.course (stand_ins inside.session.pool) inside.session.core c.self.invariant (sym c.is_some.ensures ∙ c.if-is_some.true) in
    absurd (cc (sym stopped ∙ goes))

pub returns-in_err-progress-clause-keeps : goal.returns-in_err-progress-clause-keeps
returns-in_err-progress-clause-keeps c = subst (λ (r : RunState). KeepsEvent (event_of c.args.event) (reached r)) c.self.view_is c.in_err-progress.ensures.keeps

pub returns-clause-keeps : goal.returns-clause-keeps
returns-clause-keeps c = subst (λ (r : RunState). KeepsEvent (event_of c.args.event) (reached r)) c.self.view_is c.in_ok-progress.ensures.keeps
