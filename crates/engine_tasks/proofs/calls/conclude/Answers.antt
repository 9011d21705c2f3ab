use Rattle.std.proofs.Common.{◌≡◌, ℕ, List, map, Ok, refl, sym, ap, ◌∙◌, string_bytes, arith, rules}
use Rattle.std.proofs.lemmas.Result.{err_from_is_err_and}
use Rattle.ui_machine.specs.Seq.{total}
use Rattle.ui_machine.specs.State.Config.{World}
use Rattle.ui_machine.specs.State.References.{in_value, same}
use Rattle.g_values.specs.View.{value_view}
use Rattle.g_values.specs.declared.value.Value.{Value}
use Rattle.signal_core.specs.Connected.{Connected}
use Rattle.engine_world.specs.TaskView.{agenda_of}
use Rattle.engine_stack.specs.TaskView.{tasks_of}
use Rattle.engine_world.specs.View.{with_line, world_of}
use Rattle.engine_world.specs.declared.engine.Engine.{Engine}
use Rattle.engine_world.proofs.Counts.{config_same, keeps_said, less_held}
use Rattle.engine_world.proofs.Quiets.{quiet_same}
use Rattle.engine_world.proofs.Registers.{tasks_world}
use Rattle.engine_tasks.proofs.CallSteps.{concludes, able_to_receive}
use Rattle.instance_tables.proofs.Few.{value_most}
use Rattle.engine_stack.specs.declared.task.Task.TheVariants as tasks
use Rattle.engine_world.proofs.Held.{may_counted, value_lives}
use Rattle.engine_world.proofs.Rooms.{task_counted}
use Rattle.engine_tasks.proofs.Holding.{received_names}
use Rattle.engine_tasks.proofs.calls.conclude.Goals as goal

-- what the arguments hold, as a slice
slice : (vs now : List Value) → now ≡ vs → (o : ℕ) → total (in_value o) (map value_view now) ≡ total (in_value o) (map value_view vs)
slice vs now is o = ap (λ (xs : List Value). total (in_value o) (map value_view xs)) is

pub pass_answer-requires : goal.pass_answer-requires
pass_answer-requires c = record {
  able = able_to_receive c.args.engine.now.counted _ (agenda_of c.args.definition.now c.args.engine.now) c.args.call.to.0 (value_view c.args.conclusion.value) c.requires.able;
  held = record { at = λ o. omega (arith, c.requires.counted.exact o) };
  may =
      let d = c.args.definition.now in
      let e = c.args.engine.now in
      let v = value_view c.args.conclusion.value in
      may_counted d e _ c.never_full.ensures.room (task_counted d e (tasks.Calling c.args.call) c.requires.counted) (λ o. let one = value_most o v in omega (arith, one))
      (λ o. value_lives e.world.table.objects o v (received_names e.counted _ c.args.call.to.0 v (agenda_of d e) c.requires.able c.requires.names));
}

pub returns-in_err-say : goal.returns-in_err-say
returns-in_err-say c = record {
  step = search rules;
  quiet =
      let p = err_from_is_err_and c.from_residual.result c.from_residual.ensures.1 in
      rw p.1 (quiet_same (world_of c.args.engine.now.world) (world_of c.say.new.self) (c.in_err-say.ensures.err ∙ tasks_world c.args.engine.now c.pass_answer.new.engine c.pass_answer.ensures.only));
  counted = search rules;
  room = search rules;
}

pub let_go_values-requires : goal.let_go_values-requires
let_go_values-requires c = record {
  held = λ o.
      let d = c.args.definition.now in
      let counted = c.pass_answer.ensures.counted in
      let kept = (keeps_said d c.pass_answer.new.engine c.say.new.self c.say.ensures.beside).at _ (counted.at _ c.requires.counted) in
      omega (arith, kept.exact o, slice c.args.call.args.items c.as_slice.result.now c.as_slice.ensures.value o);
}

pub returns : goal.returns
returns c = record {
  step =
      let d = c.args.definition.now in
      let e = c.args.engine.now in
      let b = c.pass_answer.new.engine in
      let only = c.pass_answer.ensures.only in
      let passed = c.pass_answer.ensures.agenda in
      let x = c.say.new.self in
      let text = string_bytes c.args.conclusion.line in
      let said = c.in_ok-say.ensures.ok ∙ ap (λ (w : World). with_line text w) (tasks_world e b only) in
      let agenda = passed ∙ ap (λ (h : Connected). Ok (tasks_of d h.handlers b.stack)) (sym c.say.ensures.handlers) in
      concludes e.counted (with_line text (world_of e.world)) (agenda_of d e) c.args.call.to.0 (value_view c.args.conclusion.value) (world_of x) (tasks_of d x.handlers.handlers b.stack) b.counted
      agenda said (ap (λ (f : Engine). f.counted) only.beside)
      ∙ ap (λ y. Ok y) (sym (config_same d (record b { world = x }) c.let_go_values.new.table c.let_go_values.ensures.only));
  quiet = search rules;
  counted =
      let d = c.args.definition.now in
      let b = c.pass_answer.new.engine in
      let x = c.say.new.self in
      let counted = c.pass_answer.ensures.counted in
      less_held d (record b { world = x }) c.let_go_values.new.table _ (λ o. same o c.args.call.object.0) (λ o. total (in_value o) (map value_view c.args.call.args.items)) c.let_go_values.ensures.only
      (λ o. omega (arith, c.let_go_values.ensures.counts o, slice c.args.call.args.items c.as_slice.result.now c.as_slice.ensures.value o)) (λ o. refl)
      ((keeps_said d b x c.say.ensures.beside).at _ (counted.at _ c.requires.counted));
  room = search rules;
}
