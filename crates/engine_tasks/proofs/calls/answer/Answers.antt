use Rattle.std.proofs.Common.{◌∙◌, sym, ap, subst, Some, None, rules}
use Rattle.std.specs.Option.{option_map}
use Rattle.ui_machine.specs.Outcome.{Answer, ◌>>=◌}
use Rattle.ui_machine.specs.State.Config.{Left}
use Rattle.ui_machine.specs.Steps.{left}
use Rattle.g_values.specs.View.{value_view}
use Rattle.engine_world.specs.EngineView.{config_of}
use Rattle.engine_world.specs.TaskView.{agenda_of}
use Rattle.engine_stack.specs.TaskView.{call_of}
use Rattle.engine_world.specs.View.{world_of}
use Rattle.engine_tasks.specs.CallView.{answered, reply_of}
use Rattle.engine_tasks.proofs.CallSteps.{asks, goes_on_so, able_to_go_on, able_to_conclude, is_closed}
use Rattle.engine_world.proofs.Ableness.{able_as}
use Rattle.engine_world.specs.Able.{Leads}
use Rattle.engine_world.proofs.Named.{names_as}
use Rattle.engine_tasks.proofs.calls.answer.Goals as goal

pub returns-then-not-is_asked : goal.returns-then-not-is_asked
returns-then-not-is_asked c = record {
  step =
      let w = world_of c.args.engine.now.world in
      c.pass_over.ensures.closed (sym c.is_asked.ensures ∙ c.if-not-is_asked.true) (Some (reply_of w (call_of c.args.call) (option_map value_view c.args.answer)));
  quiet = search rules;
  counted = search rules;
  room = search rules;
}

pub pass_over-requires-clause-able : goal.pass_over-requires-clause-able
pass_over-requires-clause-able c =
    let d = c.args.definition.now in
    let e = c.args.engine.now in
    let w = world_of e.world in
    let call = call_of c.args.call in
    let rest = agenda_of d e in
    let so = sym c.is_asked.ensures ∙ c.if-not-is_asked.true in
    let reply = Some (reply_of w call (option_map value_view c.args.answer)) in
    able_as (ap (left e.counted) (is_closed d w call rest reply so ∙ sym (is_closed d w call rest None so))) c.requires.able

pub answered-requires : goal.answered-requires
answered-requires c =
    let d = c.args.definition.now in
    let e = c.args.engine.now in
    let w = world_of e.world in
    let call = call_of c.args.call in
    let rest = agenda_of d e in
    let answer = option_map value_view c.args.answer in
    let is = asks d w call rest answer (sym c.is_asked.ensures ∙ c.if-not-is_asked.false) in
    record { able = able_to_conclude d w call rest e.counted _ (answered d w call answer) is c.requires.able }

pub conclude-requires-clause-able : goal.conclude-requires-clause-able
conclude-requires-clause-able c =
    let d = c.args.definition.now in
    let e = c.args.engine.now in
    let w = world_of e.world in
    let call = call_of c.args.call in
    let rest = agenda_of d e in
    let answer = option_map value_view c.args.answer in
    let is = asks d w call rest answer (sym c.is_asked.ensures ∙ c.if-not-is_asked.false) in
    able_to_go_on d w call rest e.counted _ (answered d w call answer) is c.requires.able _ c.in_ok-conclusion.ensures

pub conclude-requires-clause-names : goal.conclude-requires-clause-names
conclude-requires-clause-names c =
    let d = c.args.definition.now in
    let e = c.args.engine.now in
    let w = world_of e.world in
    let call = call_of c.args.call in
    let rest = agenda_of d e in
    let answer = option_map value_view c.args.answer in
    let is = asks d w call rest answer (sym c.is_asked.ensures ∙ c.if-not-is_asked.false) in
    names_as (ap (left e.counted) (is ∙ ap (λ a. a >>= goes_on_so d w call rest) c.in_ok-conclusion.ensures)) c.requires.names

pub returns : goal.returns
returns c = record {
  step =
      let d = c.args.definition.now in
      let e = c.args.engine.now in
      let w = world_of e.world in
      let call = call_of c.args.call in
      let rest = agenda_of d e in
      let answer = option_map value_view c.args.answer in
      let is = asks d w call rest answer (sym c.is_asked.ensures ∙ c.if-not-is_asked.false) ∙ ap (λ a. a >>= goes_on_so d w call rest) c.in_ok-conclusion.ensures in
      subst (λ (a : Answer Left). Leads c.conclude.result (left e.counted a) (config_of d c.conclude.new.engine)) (sym is) c.conclude.ensures.step;
  quiet = search rules;
  counted = search rules;
  room = search rules;
}
