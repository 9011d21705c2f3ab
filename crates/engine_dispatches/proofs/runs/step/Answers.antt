use Rattle.std.proofs.Common.{[], Ok, refl, ap, sym, subst}
use Rattle.std.proofs.lemmas.Result.{err_from_is_err_and}
use Rattle.engine_world.specs.EngineView.{config_of}
use Rattle.engine_world.specs.Quiet.{IsQuiet}
use Rattle.engine_world.specs.View.{world_of}
use Rattle.engine_world.specs.declared.engine.Engine.{Engine}
use Rattle.engine_dispatches.specs.CallPoints.{point_of}
use Rattle.engine_dispatches.specs.QuietSteps.{LeavesKnown, QuietlyStepped}
use Rattle.engine_dispatches.proofs.Points.{cut_off}
use Rattle.engine_dispatches.proofs.StepProofs.{call_breaks, call_grows, call_stepped, quietly_stepped, stepped_to}
use Rattle.engine_dispatches.proofs.runs.step.Goals as goal

pub returns-in_default-answer_call-clause-stepped : goal.returns-in_default-answer_call-clause-stepped
returns-in_default-answer_call-clause-stepped g c =
    let d = c.args.definition.now in
    call_breaks d _ _ (config_of d c.args.engine.now) c.take_call.new.engine c.in-Some.call c.in-Some.ensures.taken.first _ _ c.in_default-answer_call.ensures.breaks

pub returns-in-Some-clause-stepped : goal.returns-in-Some-clause-stepped
returns-in-Some-clause-stepped g c =
    let d = c.args.definition.now in
    call_stepped d _ _ (config_of d c.args.engine.now) c.take_call.new.engine c.in-Some.call c.in-Some.ensures.taken.first _ c.in-Ok.ensures.follows c.in-Ok.ensures.concludes

pub returns-in-Some-clause-grows : goal.returns-in-Some-clause-grows
returns-in-Some-clause-grows g c =
    let d = c.args.definition.now in
    call_grows d (λ k s m args answer t. ⊥) [] (config_of d c.args.engine.now) c.take_call.new.engine c.in-Some.call c.in-Some.ensures.taken.first (config_of d c.answer_call.new.engine) c.in-Ok.ensures.concludes

pub returns-in_err-made-clause-stepped : goal.returns-in_err-made-clause-stepped
returns-in_err-made-clause-stepped g c =
    let d = c.args.definition.now in
    let r = err_from_is_err_and c.from_residual.result c.from_residual.ensures.1 in
    let new = world_of c.step_quietly.new.engine.world in
    let quiet = subst (λ (e : Engine). IsQuiet (world_of e.world) new) c.in_default.ensures.taken.0 c.in_err-made.ensures.stepped in
    rw r.1 (cut_off d _ (point_of d _ c.args.engine.now) _ new refl quiet)

pub returns-clause-stepped : goal.returns-clause-stepped
returns-clause-stepped g c =
    let d = c.args.definition.now in
    let same = c.in_default.ensures.taken.0 in
    let new = c.step_quietly.new.engine in
    let known = subst (λ (e : Engine). LeavesKnown (world_of e.world) (world_of new.world) new.closing) same c.in_ok-made.ensures.known in
    let stepped = subst (λ (e : Engine). QuietlyStepped (Ok c.in_ok-made.made) d (config_of d e) (config_of d new)) same c.in_ok-made.ensures.stepped in
    stepped_to d _ _ _ c.in_ok-made.made (sym (ap (λ (e : Engine). config_of d e) c.close_due.ensures.taken))
    (quietly_stepped d _ _ c.requires.safe (config_of d new) new.closing known c.in_ok-made.made stepped _ c.close_due.ensures.closed)
