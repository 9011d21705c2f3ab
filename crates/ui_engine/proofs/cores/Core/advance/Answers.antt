use Rattle.ui_engine.specs.Phases.{HasAllRoom}
use Rattle.std.proofs.Common.{Ok, Err, ap, subst, sym, ◌∙◌}
use Rattle.std.proofs.lemmas.Result.{err_from_is_err_and}
use Rattle.ui_machine.specs.Definition.{Definition}
use Rattle.engine_world.specs.Counting.{Counts, nothing}
use Rattle.ui_engine.specs.declared.cores.Phase.TheVariants as phases
use Rattle.ui_engine.specs.declared.faults.SessionFault.TheVariants as faults
use Rattle.ui_engine.specs.SessionView.{ComesOn, SessionState}
use Rattle.ui_engine.proofs.Ending.{session_at}
use Rattle.ui_engine.proofs.InParts.{course_comes, course_goes_on, course_stops, kept_advanced, kept_under_way}
use Rattle.ui_engine.proofs.Served.{well_here}
use Rattle.ui_engine.proofs.Slices.{has_course_on}
use Rattle.ui_engine.proofs.cores.Core.advance.Goals as goal

pub advance-requires-clause-well : goal.advance-requires-clause-well
advance-requires-clause-well g c = well_here c.self.inside.verified c.definition-definition.result.now c.definition-definition.ensures.same c.types-types.ensures.denoted

pub advance-requires-clause-counted : goal.advance-requires-clause-counted
advance-requires-clause-counted g c =
    let d = c.self.inside.verified in
    let under_way = ap (λ (s : SessionState). s.under_way) c.self.view_is ∙ c.requires.in_course.in_course.under_way in
    subst (λ (x : Definition). Counts x nothing c.self.inside.engine) (sym c.definition-definition.ensures.same) (kept_under_way d c.self.inside.engine c.self.inside.phase under_way c.self.invariant).0

pub advance-requires-clause-roomy : goal.advance-requires-clause-roomy
advance-requires-clause-roomy g c =
    let d = c.self.inside.verified in
    let under_way = ap (λ (s : SessionState). s.under_way) c.self.view_is ∙ c.requires.in_course.in_course.under_way in
    subst (λ (x : Definition). HasAllRoom x c.self.inside.engine) (sym c.definition-definition.ensures.same) (kept_under_way d c.self.inside.engine c.self.inside.phase under_way c.self.invariant).1

pub advance-requires-clause-goes_on : goal.advance-requires-clause-goes_on
advance-requires-clause-goes_on g c =
    course_goes_on _ c.self.inside.verified c.definition-definition.result.now c.definition-definition.ensures.same _ c.self.inside.engine c.self.inside.phase c.args.course _ c.self.view_is c.requires.in_course

pub invariant_of-self-2 : goal.invariant_of-self-2
invariant_of-self-2 g c =
    let d = c.self.inside.verified in
    let under_way = ap (λ (s : SessionState). s.under_way) c.self.view_is ∙ c.requires.in_course.in_course.under_way in
    let roomy = (kept_under_way d c.self.inside.engine c.self.inside.phase under_way c.self.invariant).1 in
    kept_advanced d c.definition-definition.result.now c.definition-definition.ensures.same c.self.inside.engine c.advance.new.engine c.advance.ensures.room roomy _ c.in_ok-progress.progress c.in_ok-progress.ensures.counted c.in_ok-progress.ensures.rests
    c.in_ok-progress.ensures.knows c.in_ok-progress.ensures.resting _ c.phase_at-self-inside.ensures

pub returns-clause-comes : goal.returns-clause-comes
returns-clause-comes g c event w front u =
    let d = c.self.inside.verified in
    let may = g.P.Peers.relations c.args.pool.now in
    let left = g.P.Peers.seen c.advance.new.pool in
    subst (λ (s : SessionState). ComesOn (Ok c.in_ok-progress.progress) may s.definition event w front left (session_at d c.advance.new.engine c.phase_at-self-inside.result)) c.self.view_is
    (course_comes may d c.definition-definition.result.now c.definition-definition.ensures.same _ left c.self.inside.engine c.self.inside.phase c.advance.new.engine event w front c.args.course _ c.self.view_is u
    c.in_ok-progress.progress (c.in_ok-progress.ensures.proceeds event w front) c.phase_at-self-inside.result c.phase_at-self-inside.ensures)

pub returns-in_err-progress-clause-comes : goal.returns-in_err-progress-clause-comes
returns-in_err-progress-clause-comes g c event w front u =
    let d = c.self.inside.verified in
    let may = g.P.Peers.relations c.args.pool.now in
    let left = g.P.Peers.seen c.advance.new.pool in
    let p = err_from_is_err_and c.from_residual.result c.from_residual.ensures.1 in
    rw (p.1, p.2)
    (subst (λ (s : SessionState). ComesOn (Err faults.OutOfMemory) may s.definition event w front left (session_at d c.advance.new.engine phases.Stopped)) c.self.view_is
    (course_stops may d c.definition-definition.result.now c.definition-definition.ensures.same _ left c.self.inside.engine c.self.inside.phase c.advance.new.engine event w front c.args.course _ c.self.view_is u
    c.in_err-progress.field-0.0 (c.in_err-progress.ensures.proceeds event w front)))

pub returns-clause-in_course : goal.returns-clause-in_course
returns-clause-in_course g c =
    let d = c.self.inside.verified in
    let may = g.P.Peers.relations c.args.pool.now in
    let left = g.P.Peers.seen c.advance.new.pool in
    let r = c.requires.in_course in
    let comes = course_comes may d c.definition-definition.result.now c.definition-definition.ensures.same _ left c.self.inside.engine c.self.inside.phase c.advance.new.engine r.event r.from r.front c.args.course _ c.self.view_is r.in_course
    c.in_ok-progress.progress (c.in_ok-progress.ensures.proceeds r.event r.from r.front) c.phase_at-self-inside.result c.phase_at-self-inside.ensures in
    has_course_on c.advance.ensures.same d r.event r.from r.front left (session_at d c.advance.new.engine c.phase_at-self-inside.result) c.in_ok-progress.progress comes
