use Rattle.std.proofs.Common.{◌∙◌, sym, ap, subst, None, rules}
use Rattle.ui_machine.specs.Outcome.{Answer, ◌>>=◌}
use Rattle.ui_machine.specs.State.Config.{Left}
use Rattle.ui_machine.specs.Steps.{left}
use Rattle.engine_world.specs.EngineView.{config_of}
use Rattle.engine_world.specs.TaskView.{agenda_of}
use Rattle.engine_stack.specs.TaskView.{call_of}
use Rattle.engine_world.specs.View.{world_of}
use Rattle.engine_tasks.specs.CallView.{unanswered}
use Rattle.engine_tasks.proofs.CallSteps.{goes_on_so, is_closed, able_to_go_on, not_asked, able_to_conclude}
use Rattle.engine_world.proofs.Ableness.{in_left}
use Rattle.engine_world.specs.Able.{Leads}
use Rattle.engine_world.proofs.Named.{names_as}
use Rattle.engine_tasks.proofs.calls.pass_over.Goals as goal

pub unanswered-requires : goal.unanswered-requires
unanswered-requires c =
    let d = c.args.definition.now in
    let e = c.args.engine.now in
    let w = world_of e.world in
    let call = call_of c.args.call in
    let rest = agenda_of d e in
    let is = is_closed d w call rest None (not_asked d w call rest (in_left e.counted _ c.requires.able)) in
    record { able = able_to_conclude d w call rest e.counted _ (unanswered d w call) is c.requires.able }

pub conclude-requires-clause-able : goal.conclude-requires-clause-able
conclude-requires-clause-able c =
    let d = c.args.definition.now in
    let e = c.args.engine.now in
    let w = world_of e.world in
    let call = call_of c.args.call in
    let rest = agenda_of d e in
    let is = is_closed d w call rest None (not_asked d w call rest (in_left e.counted _ c.requires.able)) in
    able_to_go_on d w call rest e.counted _ (unanswered d w call) is c.requires.able _ c.in_ok-conclusion.ensures

pub conclude-requires-clause-names : goal.conclude-requires-clause-names
conclude-requires-clause-names c =
    let d = c.args.definition.now in
    let e = c.args.engine.now in
    let w = world_of e.world in
    let call = call_of c.args.call in
    let rest = agenda_of d e in
    let is = is_closed d w call rest None (not_asked d w call rest (in_left e.counted _ c.requires.able)) in
    names_as (ap (left e.counted) (is ∙ ap (λ a. a >>= goes_on_so d w call rest) c.in_ok-conclusion.ensures)) c.requires.names

pub returns-clause-executes : goal.returns-clause-executes
returns-clause-executes c = record {
  step =
      let d = c.args.definition.now in
      let e = c.args.engine.now in
      let w = world_of e.world in
      let call = call_of c.args.call in
      let rest = agenda_of d e in
      let is = is_closed d w call rest None (not_asked d w call rest (in_left e.counted _ c.requires.able)) ∙ ap (λ a. a >>= goes_on_so d w call rest) c.in_ok-conclusion.ensures in
      subst (λ (a : Answer Left). Leads c.conclude.result (left e.counted a) (config_of d c.conclude.new.engine)) (sym is) c.conclude.ensures.step;
  quiet = search rules;
  counted = search rules;
  room = search rules;
}

pub returns-clause-closed : goal.returns-clause-closed
returns-clause-closed c so reply =
    let d = c.args.definition.now in
    let e = c.args.engine.now in
    let w = world_of e.world in
    let call = call_of c.args.call in
    let rest = agenda_of d e in
    let is = is_closed d w call rest reply so ∙ ap (λ a. a >>= goes_on_so d w call rest) c.in_ok-conclusion.ensures in
    subst (λ (a : Answer Left). Leads c.conclude.result (left e.counted a) (config_of d c.conclude.new.engine)) (sym is) c.conclude.ensures.step
