use Rattle.std.proofs.Common.{List, refl, subst, ap, rules}
use Rattle.std.proofs.lemmas.Result.{err_from_is_err_and}
use Rattle.ui_machine.specs.State.Config.{Config, World}
use Rattle.ui_machine.specs.State.Tasks.{Task}
use Rattle.engine_world.specs.EngineView.{config_of}
use Rattle.engine_world.specs.FirstConstructions.{first_constructed}
use Rattle.engine_stack.specs.FirstConstructions.{constructing_task, first_construction}
use Rattle.engine_world.specs.FirstPrograms.{rest_of}
use Rattle.engine_world.specs.Standing.{with_first}
use Rattle.engine_world.specs.View.{world_of}
use Rattle.engine_world.specs.declared.engine.StepKind.TheVariants as mades
use Rattle.engine_world.proofs.Ableness.{none_stops}
use Rattle.engine_world.proofs.FirstConstructions.{begins}
use Rattle.engine_world.proofs.Registers.{none_found, some_found}
use Rattle.engine_dispatches.specs.QuietSteps.{LeavesKnown}
use Rattle.engine_dispatches.specs.Safety.{NoneUnheld}
use Rattle.engine_dispatches.proofs.LeftClosings.{task_known}
use Rattle.engine_dispatches.proofs.Standing.{first_none}
use Rattle.engine_dispatches.proofs.Stepping.{first_can, first_grows, first_stepped, view_room}
use Rattle.engine_instructions.proofs.Whole.{leads_whole}
use Rattle.std.proofs.Common.{Result, Ok}
use Rattle.std.specs.declared.alloc.AllocError.{AllocError}
use Rattle.engine_dispatches.proofs.quiet_steps.construct_or_take.Goals as goal

-- what was done
abbrev done : Result (Unit {0}) AllocError
done = Ok tt

pub construct-requires : goal.construct-requires
construct-requires c =
    let d = c.args.definition.now in
    let e = c.args.engine.now in
    let at = config_of d e in
    let first = some_found _ c.first_construction.result (first_construction e.stack.tasks.items) c.is_none.result c.first_construction.ensures c.is_none.ensures c.if-is_none.false in
    let is = begins d e first in
    record {
      first = first;
      able = none_stops _ (first_can d at at c.requires.none (constructing_task (first_constructed e)) (rest_of d e) is c.requires.quiet c.requires.safe);
      counted = c.requires.counted;
      room = view_room d e c.requires.safe;
    }

pub take_first_task-requires-clause-builds : goal.take_first_task-requires-clause-builds
take_first_task-requires-clause-builds c =
    let e = c.args.engine.now in
    none_found _ c.first_construction.result (first_construction e.stack.tasks.items) c.is_none.result c.first_construction.ensures c.is_none.ensures c.if-is_none.true

pub returns : goal.returns
returns c = record {
  counted = search rules;
  stepped =
      let d = c.args.definition.now in
      let e = c.args.engine.now in
      let at = config_of d e in
      let first = some_found _ c.first_construction.result (first_construction e.stack.tasks.items) c.is_none.result c.first_construction.ensures c.is_none.ensures c.if-is_none.false in
      first_stepped d at (config_of d c.construct.new.engine) c.requires.none (constructing_task (first_constructed e)) (rest_of d e) (begins d e first) c.requires.quiet mades.Uncounted (leads_whole d c.construct.new.engine done _ c.in_ok-construct.ensures.step) refl;
  known =
      let d = c.args.definition.now in
      let e = c.args.engine.now in
      let w = world_of e.world in
      let new = c.construct.new.engine in
      let first = some_found _ c.first_construction.result (first_construction e.stack.tasks.items) c.is_none.result c.first_construction.ensures c.is_none.ensures c.if-is_none.false in
      let none = subst (λ (ts : List Task). NoneUnheld d (record (config_of d e) { agenda = with_first w ts })) (begins d e first) (first_none d (config_of d e) c.requires.none) in
      let goes = leads_whole d c.construct.new.engine done _ c.in_ok-construct.ensures.step in
      subst (λ (v : World). LeavesKnown w v new.closing) (ap (λ (x : Config). x.world) goes.2)
      (task_known d w (rest_of d e) e.counted (constructing_task (first_constructed e)) goes.0 e.closing new.closing none goes.1 tt);
  grows =
      let d = c.args.definition.now in
      let e = c.args.engine.now in
      let at = config_of d e in
      let first = some_found _ c.first_construction.result (first_construction e.stack.tasks.items) c.is_none.result c.first_construction.ensures c.is_none.ensures c.if-is_none.false in
      first_grows d at (config_of d c.construct.new.engine) c.requires.none (constructing_task (first_constructed e)) (rest_of d e) (begins d e first) c.requires.quiet mades.Uncounted (leads_whole d c.construct.new.engine done _ c.in_ok-construct.ensures.step);
  room = search rules;
}

pub returns-in_err-construct : goal.returns-in_err-construct
returns-in_err-construct c = record {
  counted = search rules;
  stepped =
      let p = err_from_is_err_and c.from_residual.result c.from_residual.ensures.1 in
      rw p.1 c.in_err-construct.ensures.quiet;
  known = search rules;
  grows = search rules;
  room = search rules;
}
