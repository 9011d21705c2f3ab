use Rattle.ui_engine.proofs.InParts.{room_on}
use Rattle.std.proofs.Common.{Err, subst, sym, arith, vec_capacity}
use Rattle.ui_machine.specs.Definition.{Definition}
use Rattle.ui_machine.specs.Runs.{beginning, of_build}
use Rattle.ui_machine.specs.State.Config.{Config}
use Rattle.ui_machine.specs.State.Tasks.{Building}
use Rattle.native_peers.specs.Matching.{as_peers}
use Rattle.engine_world.specs.View.{world_of}
use Rattle.engine_stack.specs.TaskView.{build_from}
use Rattle.engine_dispatches.specs.Dispatched.{IsAtRest}
use Rattle.engine_dispatches.specs.PoolView.{world_at}
use Rattle.engine_dispatches.specs.Safety.{IsSafe}
use Rattle.ui_engine.specs.declared.cores.Phase.TheVariants as phases
use Rattle.ui_engine.specs.declared.faults.SessionFault.{SessionFault}
use Rattle.ui_engine.specs.SessionView.{Comes, building, state_at}
use Rattle.ui_engine.proofs.Beginning.{begins_at}
use Rattle.ui_engine.proofs.Ending.{broke_off, build_broken_as, built_as, ended, session_at}
use Rattle.ui_engine.proofs.Served.{builds_safely, built_rests}
use Rattle.ui_engine.proofs.session.build.Goals as goal

pub dispatch-requires-clause-safe : goal.dispatch-requires-clause-safe
dispatch-requires-clause-safe g c =
    let pool = g.P.Peers.seen c.args.pool in
    let same = c.definition-definition.ensures.same in
    let d = c.args.verified in
    let e = c.definition-definition.result.now in
    let w = world_at pool (world_of c.args.beginning.engine.world) in
    let fs = c.args.beginning.forwards in
    let begins = begins_at d (as_peers pool) w fs c.requires.begun.world c.requires.begun.forwards in
    let room = vec_capacity c.args.beginning.engine.stack.tasks in
    let safe = builds_safely d e same c.types-types.ensures.denoted pool c.requires.begun.matches room c.requires.begun.room (omega (arith, c.place_count-places.ensures.count, c.place_count-places.ensures.few)) c.definition-definition.ensures.accepted in
    subst (λ (x : Definition). IsSafe e room (beginning w (Building (build_from x 0 fs)))) (sym same) (subst (λ (x : Config). IsSafe e room x) (sym begins) safe)

pub invariant_of-result : goal.invariant_of-result
invariant_of-result g c =
    let pool = g.P.Peers.seen c.args.pool in
    let may = g.P.Peers.relations c.args.pool in
    let left = g.P.Peers.seen c.dispatch.new.pool in
    let same = c.definition-definition.ensures.same in
    let d = c.args.verified in
    let w = world_at pool (world_of c.args.beginning.engine.world) in
    let fs = c.args.beginning.forwards in
    let new = world_of c.dispatch.new.engine.world in
    let begins = begins_at d (as_peers pool) w fs c.requires.begun.world c.requires.begun.forwards in
    let carried = built_as (as_peers pool) w fs c.in-Ok.reply same begins c.in-Ok.ensures.carried in (
      subst (λ (x : Definition). IsAtRest x c.dispatch.new.engine) same c.in-Ok.ensures.rests,
      built_rests d c.definition-definition.result.now same c.types-types.ensures.denoted pool c.requires.begun.matches (omega (arith, c.place_count-places.ensures.count, c.place_count-places.ensures.few)) may c.in-Ok.reply left new carried c.in-Ok.ensures.knows,
      room_on d c.args.beginning.engine c.dispatch.new.engine c.dispatch.ensures.room c.requires.begun.room,
    )

pub returns-in-Ok-clause-built : goal.returns-in-Ok-clause-built
returns-in-Ok-clause-built g c =
    let pool = g.P.Peers.seen c.args.pool in
    let may = g.P.Peers.relations c.args.pool in
    let left = g.P.Peers.seen c.dispatch.new.pool in
    let same = c.definition-definition.ensures.same in
    let d = c.args.verified in
    let w = world_at pool (world_of c.args.beginning.engine.world) in
    let fs = c.args.beginning.forwards in
    let new = world_of c.dispatch.new.engine.world in
    let begins = begins_at d (as_peers pool) w fs c.requires.begun.world c.requires.begun.forwards in
    let carried = built_as (as_peers pool) w fs c.in-Ok.reply same begins c.in-Ok.ensures.carried in
    ended d may left (of_build d (as_peers pool)) c.in-Ok.reply c.dispatch.new.engine carried

pub returns-in-Err-clause-built : goal.returns-in-Err-clause-built
returns-in-Err-clause-built g c =
    let pool = g.P.Peers.seen c.args.pool in
    let may = g.P.Peers.relations c.args.pool in
    let left = g.P.Peers.seen c.dispatch.new.pool in
    let same = c.definition-definition.ensures.same in
    let d = c.args.verified in
    let w = world_at pool (world_of c.args.beginning.engine.world) in
    let fs = c.args.beginning.forwards in
    let new = world_of c.dispatch.new.engine.world in
    let begins = begins_at d (as_peers pool) w fs c.requires.begun.world c.requires.begun.forwards in
    let there = build_broken_as (as_peers pool) w fs same begins c.in-Err.ensures.carried in
    subst (λ (f : SessionFault). Comes (Err f) (building may d (as_peers pool)) d (state_at left (session_at d c.dispatch.new.engine phases.Stopped))) (sym c.from.ensures)
    (broke_off d may left (of_build d (as_peers pool)) c.dispatch.new.engine there)
