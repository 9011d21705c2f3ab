use Rattle.std.proofs.Common.{◌+◌, Option, option_map, Ok, sym, ap, subst, ◌∙◌, arith, rules}
use Rattle.std.proofs.lemmas.Result.{err_from_is_err_and}
use Rattle.ui_machine.specs.Definition.Values as values
use Rattle.ui_machine.specs.Rules.Accumulation.{result_of, told, ending}
use Rattle.ui_machine.specs.State.References.{in_register, same}
use Rattle.g_values.specs.View.{kind_view, value_view}
use Rattle.signal_core.specs.SignalView.{declared_view}
use Rattle.engine_world.specs.View.{world_of}
use Rattle.engine_world.specs.TaskView.{agenda_of}
use Rattle.engine_stack.specs.TaskView.{emission_of}
use Rattle.engine_world.proofs.Counts.{both_only, config_same, less_held}
use Rattle.engine_tasks.proofs.Emitted.{end_known, able_to_pass, end_unheard, end_unknown}
use Rattle.engine_world.proofs.Left.{left_kept, same_agenda}
use Rattle.engine_world.proofs.Quiets.{quiet_on, quiet_same}
use Rattle.engine_world.proofs.Registers.{tasks_world}
use Rattle.ui_machine.specs.State.Config.{World}
use Rattle.engine_world.specs.declared.engine.Engine.{Engine}
use Rattle.engine_world.proofs.Ableness.{in_left, no_arm}
use Rattle.engine_world.proofs.LivingObjects.{lives_where}
use Rattle.engine_world.specs.Counting.{Counts, nothing}
use Rattle.engine_world.specs.EngineView.{config_of}
use Rattle.engine_world.proofs.Held.{counted_lives, may_counted}
use Rattle.engine_world.proofs.Rooms.{register_most}
use Rattle.instance_tables.proofs.Few.{same_most}
use Rattle.engine_tasks.proofs.Holding.{result_held}
use Rattle.engine_tasks.proofs.emission.end_emission.Goals as goal

pub class_of-class-requires : goal.class_of-class-requires
class_of-class-requires c = record {
  live =
      let d = c.args.definition.now in
      let e = c.args.engine.now in
      let m = emission_of c.args.rest.cursor c.args.rest.args.items c.args.rest.by_event in
      rw c.object-object.ensures
      (lives_where (world_of e.world).objects m.object _
      (λ arm is. no_arm (ending d (world_of e.world) m (agenda_of d e)) arm (in_left e.counted _ c.requires.able) (end_unheard d (world_of e.world) m (agenda_of d e) arm is)));
}

pub unreachable-requires : goal.unreachable-requires
unreachable-requires c =
    let d = c.args.definition.now in
    let e = c.args.engine.now in
    let m = emission_of c.args.rest.cursor c.args.rest.args.items c.args.rest.by_event in
    let none = sym c.signal.ensures ∙ ap (option_map declared_view) c.in_default.is in
    no_arm (ending d (world_of e.world) m (agenda_of d e)) _ (in_left e.counted _ c.requires.able)
    (end_unknown d (world_of e.world) m (agenda_of d e) _ (rw c.object-object.ensures at c.class_of-class.ensures) (rw c.signal-number.ensures at none))

pub result_of-value-requires : goal.result_of-value-requires
result_of-value-requires c = record {
  known =
      let d = c.args.definition.now in
      let declared = sym c.signal.ensures ∙ ap (option_map declared_view) c.in-Some.is in
      (c.types-types.ensures.basic.signal_kinds c.class_of-class.result c.signal-number.result (declared_view c.in-Some.signal) declared).result;
}

pub pass_down-requires : goal.pass_down-requires
pass_down-requires c =
    let d = c.args.definition.now in
    let e = c.args.engine.now in
    let m = emission_of c.args.rest.cursor c.args.rest.args.items c.args.rest.by_event in
    let declared = sym c.signal.ensures ∙ ap (option_map declared_view) c.in-Some.is in
    let v = option_map value_view c.result_of-value.result in
    let is = c.result_of-value.ensures ∙ ap (λ (x : Option values.Value). result_of d (option_map kind_view c.in-Some.signal.result) x) c.value.ensures in
    record {
      able = able_to_pass d (world_of e.world) m (agenda_of d e) _ (rw c.object-object.ensures at c.class_of-class.ensures) (declared_view c.in-Some.signal) (rw c.signal-number.ensures at declared) v is
          (in_left e.counted _ c.requires.able);
      held = record { at = λ o. omega (arith, c.requires.counted.exact o) };
      may =
          may_counted d e _ c.never_full.ensures.room (record {
            taken = λ o. same o c.args.rest.cursor.object + in_register o c.args.rest.cursor.value;
            counts = c.requires.counted;
            little = λ o. omega (arith, same_most o c.args.rest.cursor.object, register_most o c.args.rest.cursor.value);
          })
          (λ o. let one = register_most o v in omega (arith, one))
          (λ o held. counted_lives d _ e c.never_full.ensures.dead c.requires.counted o
          (let less = result_held d o (option_map kind_view c.in-Some.signal.result) c.args.rest.cursor.value in let same_held = ap (in_register o) is in omega (arith, held, less, same_held)));
    }

pub returns-in_err-pass_down : goal.returns-in_err-pass_down
returns-in_err-pass_down c = record {
  step = search rules;
  quiet =
      let p = err_from_is_err_and c.from_residual.result c.from_residual.ensures.1 in
      rw p.1 (quiet_same (world_of c.args.engine.now.world) (world_of c.pass_down.new.engine.world) (tasks_world c.args.engine.now c.pass_down.new.engine c.pass_down.ensures.only));
  counted = search rules;
  room = search rules;
}

pub returns-in_err-say_result_if : goal.returns-in_err-say_result_if
returns-in_err-say_result_if c = record {
  step = search rules;
  quiet =
      let p = err_from_is_err_and c.from_residual-in_err-say_result_if.result c.from_residual-in_err-say_result_if.ensures.1 in
      let e = world_of c.args.engine.now.world in
      let m = world_of c.pass_down.new.engine.world in
      rw p.1
      (quiet_on e m (world_of c.say_result_if.new.engine.world) (quiet_same e m (tasks_world c.args.engine.now c.pass_down.new.engine c.pass_down.ensures.only))
      c.in_err-say_result_if.ensures.quiet);
  counted = search rules;
  room = search rules;
}

pub let_go_any-requires : goal.let_go_any-requires
let_go_any-requires c = record {
  held = λ o.
      let d = c.args.definition.now in
      let passed = c.in_ok-pass_down.ensures.counted in
      let kept = c.in_ok-say_result_if.ensures.counted.at _ (passed.at _ c.requires.counted) in
      omega (arith, kept.exact o, c.accumulated-held.ensures o);
}

pub let_go_any-requires-2 : goal.let_go_any-requires-2
let_go_any-requires-2 c = record {
  held = λ o.
      let d = c.args.definition.now in
      let passed = c.in_ok-pass_down.ensures.counted in
      let kept = c.in_ok-say_result_if.ensures.counted.at _ (passed.at _ c.requires.counted) in
      omega (arith, kept.exact o, c.let_go_any.ensures.counts o, c.accumulated-held.ensures o, ap (same o) c.object-object.ensures);
}

pub returns : goal.returns
returns c = record {
  step =
      let d = c.args.definition.now in
      let e = c.args.engine.now in
      let b = c.pass_down.new.engine in
      let only_tasks = c.pass_down.ensures.only in
      let g = c.say_result_if.new.engine in
      let m = emission_of c.args.rest.cursor c.args.rest.args.items c.args.rest.by_event in
      let declared = sym c.signal.ensures ∙ ap (option_map declared_view) c.in-Some.is in
      let v = option_map value_view c.result_of-value.result in
      let is = c.result_of-value.ensures ∙ ap (λ (x : Option values.Value). result_of d (option_map kind_view c.in-Some.signal.result) x) c.value.ensures in
      let ends = end_known d (world_of e.world) m (agenda_of d e) _ (rw c.object-object.ensures at c.class_of-class.ensures) (declared_view c.in-Some.signal) (rw c.signal-number.ensures at declared) v is
      (agenda_of d b) c.in_ok-pass_down.ensures.agenda in
      let only = both_only g.world.table c.let_go_any.new.table c.let_go_any-2.new.table c.let_go_any.ensures.only c.let_go_any-2.ensures.only in
      left_kept e.counted _ _ (agenda_of d b) (world_of g.world) (agenda_of d g) g.counted ends
      (c.in_ok-say_result_if.ensures.world ∙ ap (λ (w : World). told d w c.args.rest.by_event v) (tasks_world e b only_tasks))
      (same_agenda d b g c.say_result_if.ensures.same.0 c.say_result_if.ensures.handlers) (c.say_result_if.ensures.same.1 ∙ ap (λ (x : Engine). x.counted) only_tasks.beside)
      ∙ ap (λ x. Ok x) (sym (config_same d g c.let_go_any-2.new.table only))
      ∙ ap (λ (x : Engine). Ok (config_of d x)) (sym c.give_back_list.ensures);
  quiet = search rules;
  counted =
      let d = c.args.definition.now in
      let passed = c.in_ok-pass_down.ensures.counted in
      let g = c.say_result_if.new.engine in
      let only = both_only g.world.table c.let_go_any.new.table c.let_go_any-2.new.table c.let_go_any.ensures.only c.let_go_any-2.ensures.only in
      subst (λ (x : Engine). Counts d nothing x) (sym c.give_back_list.ensures)
      (less_held d g c.let_go_any-2.new.table _ nothing (λ o. same o c.args.rest.cursor.object + in_register o c.args.rest.cursor.value) only
      (λ o. omega (arith, c.let_go_any-2.ensures.counts o, c.let_go_any.ensures.counts o, c.accumulated-held.ensures o, ap (same o) c.object-object.ensures)) (λ o. omega arith)
      (c.in_ok-say_result_if.ensures.counted.at _ (passed.at _ c.requires.counted)));
  room = search rules;
}
