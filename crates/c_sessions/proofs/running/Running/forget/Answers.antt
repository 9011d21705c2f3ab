use Rattle.std.proofs.Common.{◌≡◌, Option, ap, subst, sym, ◌∙◌}
use Rattle.native_peers.specs.StandIns.{stand_ins}
use Rattle.native_peers.specs.declared.stand_ins.StandIn.{StandIn}
use Rattle.ui_engine.specs.SessionView.{SessionState}
use Rattle.c_sessions.specs.Courses.{FromWherever, HasComeStill}
use Rattle.c_sessions.specs.RunStates.{RunState, without_said}
use Rattle.c_sessions.proofs.Parts.{course_still, still_forgotten}
use Rattle.c_sessions.proofs.running.Running.forget.Goals as goal

pub invariant_of-self : goal.invariant_of-self
invariant_of-self c =
    let inside = c.self.inside in
    let left = c.forget.new.self in
    course_still inside.course (stand_ins inside.session.pool) (stand_ins left.pool) inside.session.core left.core c.forget.ensures.in_course c.self.invariant

pub returns-clause-under_way : goal.returns-clause-under_way
returns-clause-under_way c =
    let inside = c.self.inside in
    let left = c.forget.new.self in
    let new : RunState = record { pool = stand_ins left.pool; core = left.core; course = inside.course } in
    let is : new ≡ without_said c.args.self.now =
    ap (λ (p : Option StandIn). record { pool = stand_ins p; core = left.core; course = inside.course }) c.forget.ensures.pool
    ∙ ap (λ (s : SessionState). record { pool = stand_ins inside.session.pool; core = s; course = inside.course }) c.forget.ensures.lines
    ∙ ap without_said c.self.view_is in
    subst (λ (r : RunState). FromWherever c.args.self.now (λ event w front steps. HasComeStill event w front steps c.args.self.now r)) (sym is) (still_forgotten c.args.self.now)
