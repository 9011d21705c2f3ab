use Rattle.std.proofs.Common.{List, refl, subst, ap, rules}
use Rattle.std.proofs.lemmas.Result.{err_from_is_err_and}
use Rattle.ui_machine.specs.State.Config.{Config, World}
use Rattle.ui_machine.specs.State.Tasks.{Running, Task}
use Rattle.engine_world.specs.EngineView.{config_of}
use Rattle.engine_world.specs.FirstPrograms.{first_frame, rest_of}
use Rattle.engine_stack.specs.FirstPrograms.{first_program}
use Rattle.engine_world.specs.Standing.{with_first}
use Rattle.engine_world.specs.View.{world_of}
use Rattle.engine_world.specs.declared.engine.StepKind.TheVariants as mades
use Rattle.engine_world.proofs.Ableness.{none_stops}
use Rattle.engine_world.proofs.FirstPrograms.{begins}
use Rattle.engine_world.proofs.Registers.{none_found, some_found}
use Rattle.engine_dispatches.specs.QuietSteps.{LeavesKnown}
use Rattle.engine_dispatches.specs.Safety.{NoneUnheld}
use Rattle.engine_dispatches.proofs.LeftClosings.{task_known}
use Rattle.engine_dispatches.proofs.Standing.{first_none}
use Rattle.engine_dispatches.proofs.Stepping.{first_can, first_grows, first_names_so, first_stepped, view_meanings, view_room}
use Rattle.engine_dispatches.proofs.quiet_steps.first_task.Goals as goal

pub run_program-requires : goal.run_program-requires
run_program-requires c =
    let d = c.args.definition.now in
    let e = c.args.engine.now in
    let at = config_of d e in
    let first = some_found _ c.first_program.result (first_program e.stack.tasks.items) c.is_none.result c.first_program.ensures c.is_none.ensures c.if-is_none.false in
    let is = begins d e first in
    record {
      first = first;
      able = none_stops _ (first_can d at at c.requires.none (Running (first_frame e)) (rest_of d e) is c.requires.quiet c.requires.safe);
      names = first_names_so d at at c.requires.none (Running (first_frame e)) (rest_of d e) is c.requires.quiet c.requires.safe;
      meanings = view_meanings d at c.requires.safe;
      counted = c.requires.counted;
      room = view_room d e c.requires.safe;
    }

pub emit_or_take-requires-clause-other : goal.emit_or_take-requires-clause-other
emit_or_take-requires-clause-other c =
    let e = c.args.engine.now in
    none_found _ c.first_program.result (first_program e.stack.tasks.items) c.is_none.result c.first_program.ensures c.is_none.ensures c.if-is_none.true

pub returns : goal.returns
returns c = record {
  counted = search rules;
  stepped =
      let d = c.args.definition.now in
      let e = c.args.engine.now in
      let at = config_of d e in
      let first = some_found _ c.first_program.result (first_program e.stack.tasks.items) c.is_none.result c.first_program.ensures c.is_none.ensures c.if-is_none.false in
      first_stepped d at (config_of d c.run_program.new.engine) c.requires.none (Running (first_frame e)) (rest_of d e) (begins d e first) c.requires.quiet mades.Counted c.in_ok-run_program.ensures.executes.step refl;
  known =
      let d = c.args.definition.now in
      let e = c.args.engine.now in
      let w = world_of e.world in
      let new = c.run_program.new.engine in
      let first = some_found _ c.first_program.result (first_program e.stack.tasks.items) c.is_none.result c.first_program.ensures c.is_none.ensures c.if-is_none.false in
      let none = subst (λ (ts : List Task). NoneUnheld d (record (config_of d e) { agenda = with_first w ts })) (begins d e first) (first_none d (config_of d e) c.requires.none) in
      let goes = c.in_ok-run_program.ensures.executes.step in
      subst (λ (v : World). LeavesKnown w v new.closing) (ap (λ (x : Config). x.world) goes.2)
      (task_known d w (rest_of d e) e.counted (Running (first_frame e)) goes.0 e.closing new.closing none goes.1 c.in_ok-run_program.ensures.closing);
  grows =
      let d = c.args.definition.now in
      let e = c.args.engine.now in
      let at = config_of d e in
      let first = some_found _ c.first_program.result (first_program e.stack.tasks.items) c.is_none.result c.first_program.ensures c.is_none.ensures c.if-is_none.false in
      first_grows d at (config_of d c.run_program.new.engine) c.requires.none (Running (first_frame e)) (rest_of d e) (begins d e first) c.requires.quiet mades.Counted c.in_ok-run_program.ensures.executes.step;
  room = search rules;
}

pub returns-in_err-run_program : goal.returns-in_err-run_program
returns-in_err-run_program c = record {
  counted = search rules;
  stepped =
      let p = err_from_is_err_and c.from_residual.result c.from_residual.ensures.1 in
      rw p.1 c.in_err-run_program.ensures.executes.quiet;
  known = search rules;
  grows = search rules;
  room = search rules;
}
