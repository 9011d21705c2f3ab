use Rattle.std.proofs.Common.{Ok, ◌∙◌, ◌+◌, ◌≤◌, ap, length, sym, subst, vec_capacity, arith, rules}
use Rattle.ui_machine.specs.Rules.Build.{to_connect, to_make}
use Rattle.ui_machine.specs.Rules.Connections.{greatest_handler}
use Rattle.ui_machine.specs.State.Objects.{most_identities}
use Rattle.ui_machine.specs.State.Config.{Config, World}
use Rattle.engine_stack.specs.HeldByTasks.{in_subject}
use Rattle.std.proofs.Common.{List}
use Rattle.std.proofs.lemmas.Result.{err_from_is_err_and}
use Rattle.ui_machine.specs.State.Tasks.{Task}
use Rattle.engine_dispatches.specs.QuietSteps.{LeavesKnown, QuietlyStepped}
use Rattle.engine_dispatches.specs.Safety.{NoneUnheld}
use Rattle.engine_world.specs.Standing.{with_first}
use Rattle.engine_world.specs.TaskView.{task_in}
use Rattle.engine_stack.specs.TaskView.{tasks_of}
use Rattle.engine_dispatches.proofs.LeftClosings.{task_known}
use Rattle.engine_world.proofs.Ableness.{none_stops}
use Rattle.engine_world.specs.EngineView.{config_of}
use Rattle.engine_world.proofs.Rooms.{frames_few, tasks_counted}
use Rattle.engine_world.proofs.Counts.{config_same, taken_off, given_back, same_tasks}
use Rattle.engine_world.specs.View.{world_of}
use Rattle.engine_dispatches.proofs.Standing.{first_none}
use Rattle.engine_dispatches.proofs.Stepping.{first_can, first_names_so, first_stepped, first_grows, view_few, view_meanings, view_numbers}
use Rattle.engine_dispatches.proofs.quiet_steps.take_first_task.Goals as goal

pub sink_first_floating-requires-clause-none : goal.sink_first_floating-requires-clause-none
sink_first_floating-requires-clause-none c =
    let d = c.args.definition.now in
    let none = c.in_default.ensures.tasks d c.args.engine.now.world.handlers.handlers in
    subst (λ (ts : List Task). NoneUnheld d (record (config_of d c.args.engine.now) { agenda = ts })) (none.0 ∙ sym none.1) c.requires.none

pub sink_first_floating-requires-clause-idle : goal.sink_first_floating-requires-clause-idle
sink_first_floating-requires-clause-idle c = (c.in_default.ensures.tasks c.args.definition.now c.args.engine.now.world.handlers.handlers).1

pub sink_first_floating-requires-clause-counted : goal.sink_first_floating-requires-clause-counted
sink_first_floating-requires-clause-counted c =
    let d = c.args.definition.now in
    let none = c.in_default.ensures.tasks d c.args.engine.now.world.handlers.handlers in
    same_tasks d c.args.engine.now c.pop_task.new.self (none.1 ∙ sym none.0) c.in_default.ensures.begun c.requires.counted

pub returns-in_default : goal.returns-in_default
returns-in_default c = record {
  counted = search rules;
  stepped =
      let d = c.args.definition.now in
      let none = c.in_default.ensures.tasks d c.args.engine.now.world.handlers.handlers in
      subst (λ (ts : List Task). QuietlyStepped (Ok c.sink_first_floating.result) d (record (config_of d c.args.engine.now) { agenda = ts }) (config_of d c.sink_first_floating.new.engine)) (none.1 ∙ sym none.0)
      c.sink_first_floating.ensures.stepped;
  known = c.sink_first_floating.ensures.known;
  grows = search rules;
  room = search rules;
}

pub returns-in_err-act : goal.returns-in_err-act
returns-in_err-act c = record {
  counted = search rules;
  stepped =
      let p = err_from_is_err_and c.from_residual.result c.from_residual.ensures.1 in
      rw p.1 c.in_err-act.ensures.executes.quiet;
  known = search rules;
  grows = search rules;
  room = search rules;
}

pub act-requires : goal.act-requires
act-requires c = record {
  able =
      let d = c.args.definition.now in
      let e = c.args.engine.now in
      let hs = e.world.handlers.handlers in
      none_stops _
      (first_can d (config_of d e) (config_of d e) c.requires.none (task_in d e c.in-Some.task) (tasks_of d hs c.pop_task.new.self) (c.in-Some.ensures.tasks d hs) c.requires.quiet c.requires.safe);
  names =
      let d = c.args.definition.now in
      let e = c.args.engine.now in
      let hs = e.world.handlers.handlers in
      first_names_so d (config_of d e) (config_of d e) c.requires.none (task_in d e c.in-Some.task) (tasks_of d hs c.pop_task.new.self) (c.in-Some.ensures.tasks d hs) c.requires.quiet c.requires.safe;
  identities =
      let d = c.args.definition.now in
      let e = c.args.engine.now in
      subst (λ (ts : List Task). length (world_of e.world).objects + to_make ts ≤ most_identities) (c.in-Some.ensures.tasks d e.world.handlers.handlers) (view_numbers d (config_of d e) c.requires.safe).identities;
  numbers =
      let d = c.args.definition.now in
      let e = c.args.engine.now in
      subst (λ (ts : List Task). (world_of e.world).last_handler + to_connect ts ≤ greatest_handler) (c.in-Some.ensures.tasks d e.world.handlers.handlers) (view_numbers d (config_of d e) c.requires.safe).handlers;
  meanings = view_meanings c.args.definition.now (config_of c.args.definition.now c.args.engine.now) c.requires.safe;
  room =
      let d = c.args.definition.now in
      let e = c.args.engine.now in
      let hs = e.world.handlers.handlers in
      let few = view_few d (vec_capacity e.stack.tasks) (config_of d e) c.requires.safe in
      let first = ap (λ (ts : List Task). length ts) (c.in-Some.ensures.tasks d hs) in
      let same = c.pop_task.ensures.room in
      (omega (arith, few.0, first, tasks_counted d hs c.pop_task.new.self, same), omega (arith, few.1, frames_few d hs e.stack, c.pop_task.ensures.frames, same));
  other = c.in-Some.ensures.frameless.program;
  begins = c.in-Some.ensures.frameless.emission;
  builds = c.in-Some.ensures.construction ∙ c.requires.builds;
  begun = c.in-Some.ensures.first c.args.engine.now.world.handlers.last c.requires.counted.connects.begun;
  counted =
      let d = c.args.definition.now in
      let e = c.args.engine.now in
      taken_off d e c.pop_task.new.self (task_in d e c.in-Some.task) (c.in-Some.ensures.tasks d e.world.handlers.handlers) c.in-Some.ensures.begun c.requires.counted;
}

pub let_go_any-requires : goal.let_go_any-requires
let_go_any-requires c = record {
  held = λ o.
      let d = c.args.definition.now in
      omega (arith, c.in_ok-act.ensures.executes.counted.exact o, c.object-held.ensures d c.args.engine.now.world.handlers.handlers o);
}

pub returns : goal.returns
returns c = record {
  counted =
      let d = c.args.definition.now in
      let t = task_in d c.args.engine.now c.in-Some.task in
      given_back d c.act.new.engine c.let_go_any.new.table (λ o. in_subject o t) c.let_go_any.ensures.only
      (λ o. omega (arith, c.let_go_any.ensures.counts o, c.object-held.ensures d c.args.engine.now.world.handlers.handlers o)) c.in_ok-act.ensures.executes.counted;
  stepped =
      let d = c.args.definition.now in
      subst (λ (e : Config). QuietlyStepped (Ok c.kind_of-kind.result) d (config_of d c.args.engine.now) e) (sym (config_same d c.act.new.engine c.let_go_any.new.table c.let_go_any.ensures.only))
      (first_stepped d (config_of d c.args.engine.now) (config_of d c.act.new.engine) c.requires.none (task_in d c.args.engine.now c.in-Some.task) (tasks_of d c.args.engine.now.world.handlers.handlers c.pop_task.new.self) (c.in-Some.ensures.tasks d c.args.engine.now.world.handlers.handlers) c.requires.quiet
      c.kind_of-kind.result c.in_ok-act.ensures.executes.step (c.kind_of-kind.ensures c.args.definition.now c.args.engine.now));
  known =
      let d = c.args.definition.now in
      let e = c.args.engine.now in
      let w = world_of e.world in
      let hs = e.world.handlers.handlers in
      let rest = tasks_of d hs c.pop_task.new.self in
      let none = subst (λ (ts : List Task). NoneUnheld d (record (config_of d e) { agenda = with_first w ts })) (c.in-Some.ensures.tasks d hs) (first_none d (config_of d e) c.requires.none) in
      let goes = c.in_ok-act.ensures.executes.step in
      subst (λ (v : World). LeavesKnown w v c.act.new.engine.closing) (ap (λ (x : Config). x.world) goes.2)
      (task_known d w rest e.counted (task_in d e c.in-Some.task) goes.0 e.closing c.act.new.engine.closing none goes.1 c.in_ok-act.ensures.closing);
  grows =
      let d = c.args.definition.now in
      first_grows d (config_of d c.args.engine.now) (config_of d c.act.new.engine) c.requires.none (task_in d c.args.engine.now c.in-Some.task) (tasks_of d c.args.engine.now.world.handlers.handlers c.pop_task.new.self) (c.in-Some.ensures.tasks d c.args.engine.now.world.handlers.handlers) c.requires.quiet
      c.kind_of-kind.result c.in_ok-act.ensures.executes.step;
  room = search rules;
}
