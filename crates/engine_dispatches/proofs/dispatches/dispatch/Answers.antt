use Rattle.std.proofs.Common.{[], arith}
use Rattle.engine_dispatches.proofs.Reaching.{reaches_here}
use Rattle.engine_dispatches.proofs.Points.{safe_in}
use Rattle.std.proofs.lemmas.Result.{err_from_is_err_and}
use Rattle.engine_world.specs.Counting.{nothing}
use Rattle.engine_world.specs.EngineView.{config_of}
use Rattle.engine_world.specs.TaskView.{task_in}
use Rattle.engine_world.specs.View.{world_of}
use Rattle.engine_instructions.proofs.Whole.{engine_whole}
use Rattle.engine_dispatches.specs.CallPoints.{point_of}
use Rattle.engine_dispatches.proofs.Ends.{breaks_begun, carried_begun, knows_begun, safe_begun}
use Rattle.engine_dispatches.proofs.dispatches.dispatch.Goals as goal

pub run-requires-clause-safe : goal.run-requires-clause-safe
run-requires-clause-safe g c =
    let d = c.args.definition.now in
    let e = c.args.engine.now in
    safe_in d c.begin_dispatch.ensures.room
    (safe_begun d (λ k s m args answer t. ⊥) _ (world_of e.world) (task_in d e c.args.task) (config_of d c.begin_dispatch.new.engine) c.begin_dispatch.ensures.ok (engine_whole d c.begin_dispatch.new.engine) c.requires.knows c.requires.safe)

pub begin_dispatch-requires-clause-room : goal.begin_dispatch-requires-clause-room
begin_dispatch-requires-clause-room g c =
    let few = c.requires.safe.few [] tt _ (reaches_here c.args.definition.now _) in
    omega (arith, few)

pub run-requires-clause-counted : goal.run-requires-clause-counted
run-requires-clause-counted g c = c.begin_dispatch.ensures.counted.at nothing c.requires.rests.counts

pub returns-in_err-run-clause-carried : goal.returns-in_err-run-clause-carried
returns-in_err-run-clause-carried g c =
    let d = c.args.definition.now in
    let r = err_from_is_err_and c.from_residual.result c.from_residual.ensures.1 in
    rw r.1 (breaks_begun d _ _ (world_of c.args.engine.now.world) (task_in c.args.definition.now c.args.engine.now c.args.task) (config_of d c.begin_dispatch.new.engine) c.begin_dispatch.ensures.ok (engine_whole d c.begin_dispatch.new.engine) c.requires.knows _ _ c.in_err-run.ensures.ran)

pub returns-clause-knows : goal.returns-clause-knows
returns-clause-knows g c =
    let d = c.args.definition.now in
    knows_begun d _ _ (world_of c.args.engine.now.world) (task_in c.args.definition.now c.args.engine.now c.args.task) (config_of d c.begin_dispatch.new.engine) c.begin_dispatch.ensures.ok (engine_whole d c.begin_dispatch.new.engine) c.requires.knows c.requires.safe (point_of d _ c.run.new.engine) c.in_ok-run.ensures.ran.0 c.end_dispatch.result (world_of c.end_dispatch.new.engine.world) c.end_dispatch.ensures.says

pub returns-clause-carried : goal.returns-clause-carried
returns-clause-carried g c =
    let d = c.args.definition.now in
    let ran = c.in_ok-run.ensures.ran in
    carried_begun d _ _ (world_of c.args.engine.now.world) (task_in c.args.definition.now c.args.engine.now c.args.task) (config_of d c.begin_dispatch.new.engine) c.begin_dispatch.ensures.ok (engine_whole d c.begin_dispatch.new.engine) c.requires.knows (point_of d _ c.run.new.engine) ran.0 ran.1 c.end_dispatch.result (world_of c.end_dispatch.new.engine.world) c.end_dispatch.ensures.says c.end_dispatch.ensures.quiet
