use Rattle.std.proofs.Common.{◌≡◌, Ok, Option, Some, ap, subst, sym, ◌∙◌}
use Rattle.std.specs.Prelude.{is_some}
use Rattle.native_peers.specs.StandIns.{stand_ins}
use Rattle.engine_dispatches.specs.declared.courses.Course.{Course}
use Rattle.c_sessions.specs.Courses.{Advances}
use Rattle.c_sessions.specs.RunStates.{RunState, is_under_way}
use Rattle.c_sessions.proofs.Parts.{advances, goes_on}
use Rattle.c_sessions.proofs.running.Running.advance.Goals as goal

pub returns-clause-advances : goal.returns-clause-advances
returns-clause-advances c =
    let inside = c.self.inside in
    let old : RunState = record { pool = stand_ins inside.session.pool; core = inside.session.core; course = inside.course } in
    let new : RunState = record { pool = stand_ins c.advance.new.self.pool; core = c.advance.new.self.core; course = c.course_left.result } in
    let kept : inside.course ≡ Some c.in-Some.course = sym c.in-Some.ensures.value in
    let on = c.in_ok-progress.ensures in
    subst (λ (r : RunState). Advances (is_under_way r) (Ok tt) c.args.most r new) c.self.view_is
    (advances (is_under_way old) (Ok tt) c.args.most old new (ap (λ (o : Option Course). is_some o) kept)
    (goes_on old new c.in-Some.course kept c.args.most c.in_ok-progress.progress c.course_left.ensures on.comes on.made on.most))
