use Rattle.std.proofs.Common.{◌≡◌, ◌∷◌, refl, arith, List, None, Ok, Option, Some, IsSome, option_map, sym, subst, ap, ◌∙◌}
use Rattle.ui_machine.specs.Definition.Values as machine
use Rattle.ui_machine.specs.Rules.EmissionPlan.{signal_of}
use Rattle.ui_machine.specs.State.Config.{leaves}
use Rattle.ui_machine.specs.State.Objects.{asked, living}
use Rattle.ui_machine.specs.State.References.{in_register}
use Rattle.ui_machine.specs.State.Tasks.{Task}
use Rattle.g_values.specs.View.{value_view}
use Rattle.signal_core.specs.Emission.{accumulator_of}
use Rattle.signal_core.specs.SignalView.{declared_view}
use Rattle.engine_world.specs.FirstEmissions.{first_emitted}
use Rattle.engine_stack.specs.FirstEmissions.{Emitted, emission_view, emitting, entries_left}
use Rattle.engine_world.specs.FirstPrograms.{rest_of}
use Rattle.engine_world.specs.TaskView.{agenda_of}
use Rattle.engine_world.specs.View.{world_of}
use Rattle.engine_world.specs.declared.engine.Engine.{Engine}
use Rattle.engine_world.proofs.Ableness.{no_arm}
use Rattle.engine_world.proofs.FirstEmissions.{begins}
use Rattle.engine_stack.proofs.FirstEmissions.{emission_found}
use Rattle.engine_world.proofs.LivingObjects.{lives_where}
use Rattle.engine_world.proofs.Registers.{tasks_world}
use Rattle.engine_instructions.specs.CollectView.{collected_by}
use Rattle.engine_instructions.proofs.Collecting.{accumulates, collect_unheard, collect_unknown, collected_keeps, collected_may, collects_object, leaves_as, still_known}
use Rattle.engine_instructions.proofs.accumulation.accumulate.Goals as goal

pub class_of-class-requires : goal.class_of-class-requires
class_of-class-requires c = record {
  live =
      let d = c.args.definition.now in
      let e = c.args.engine.now in
      let w = world_of e.world in
      let own = first_emitted e in
      let found = emission_found e.stack c.in-Some.emission.now (sym c.in-Some.ensures) in
      let object = c.object-object.ensures ∙ ap (λ (x : Emitted). x.walk.object) (sym found) in
      subst (λ i. IsSome (living e.world.table.objects i)) (sym object)
      (lives_where w.objects own.walk.object _ (λ arm is. no_arm _ arm c.requires.able
      (collect_unheard d w (emission_view own) (entries_left own e.world.handlers.handlers) (rest_of d e) (option_map value_view c.args.given) arm is)));
}

pub unreachable-requires-in_default-signal : goal.unreachable-requires-in_default-signal
unreachable-requires-in_default-signal c =
    let d = c.args.definition.now in
    let e = c.args.engine.now in
    let w = world_of e.world in
    let own = first_emitted e in
    let found = emission_found e.stack c.in-Some.emission.now (sym c.in-Some.ensures) in
    let object = c.object-object.ensures ∙ ap (λ (x : Emitted). x.walk.object) (sym found) in
    let number = c.signal-number.ensures ∙ ap (λ (x : Emitted). x.walk.signal) (sym found) in
    let of = subst (λ i. asked w.objects i (λ o. Ok o.class) ≡ Ok c.class_of-class.result) object c.class_of-class.ensures in
    let none = subst (λ n. signal_of d c.class_of-class.result n ≡ None) number (sym c.signal.ensures ∙ ap (option_map declared_view) c.in_default-signal.is) in
    no_arm _ _ c.requires.able
    (collect_unknown d w (emission_view own) (entries_left own e.world.handlers.handlers) (rest_of d e) (option_map value_view c.args.given) _ of none)

pub collect-requires : goal.collect-requires
collect-requires c = record {
  first = c.requires.first;
  held = c.requires.held;
  may =
      collected_may c.args.engine.now.world.table (first_emitted c.args.engine.now).walk (option_map accumulator_of c.in-Some-signal.signal.accumulator) (Some (value_view c.in-Some-given.value))
      (rw c.in-Some-given.is at c.requires.may) c.requires.again;
}

pub returns-in_default-given-clause-step : goal.returns-in_default-given-clause-step
returns-in_default-given-clause-step c =
    let d = c.args.definition.now in
    let e = c.args.engine.now in
    let w = world_of e.world in
    let own = first_emitted e in
    let found = emission_found e.stack c.in-Some.emission.now (sym c.in-Some.ensures) in
    let object = c.object-object.ensures ∙ ap (λ (x : Emitted). x.walk.object) (sym found) in
    let number = c.signal-number.ensures ∙ ap (λ (x : Emitted). x.walk.signal) (sym found) in
    let of = subst (λ i. asked w.objects i (λ o. Ok o.class) ≡ Ok c.class_of-class.result) object c.class_of-class.ensures in
    let s = declared_view c.in-Some-signal.signal in
    let declared = subst (λ n. signal_of d c.class_of-class.result n ≡ Some s) number (sym c.signal.ensures ∙ ap (option_map declared_view) c.in-Some-signal.is) in
    let given = ap (λ (o : Option _). option_map value_view o) c.in_default-given.is in
    accumulates d e c.class_of-class.result own (rest_of d e) (option_map value_view c.args.given) c.requires.known.1 of s declared c.requires.able
    ∙ ap (λ (o : Option machine.Value). leaves w (emitting (collected_by s.accumulator o own) e.world.handlers.handlers ∷ rest_of d e)) given
    ∙ ap (λ (ts : List Task). leaves w ts) (sym (begins d e c.requires.first))

pub returns-clause-step : goal.returns-clause-step
returns-clause-step c =
    let d = c.args.definition.now in
    let e = c.args.engine.now in
    let w = world_of e.world in
    let own = first_emitted e in
    let found = emission_found e.stack c.in-Some.emission.now (sym c.in-Some.ensures) in
    let object = c.object-object.ensures ∙ ap (λ (x : Emitted). x.walk.object) (sym found) in
    let number = c.signal-number.ensures ∙ ap (λ (x : Emitted). x.walk.signal) (sym found) in
    let of = subst (λ i. asked w.objects i (λ o. Ok o.class) ≡ Ok c.class_of-class.result) object c.class_of-class.ensures in
    let s = declared_view c.in-Some-signal.signal in
    let new = c.collect.new.engine in
    let only = c.collect.ensures.only in
    let hs = e.world.handlers.handlers in
    let declared = subst (λ n. signal_of d c.class_of-class.result n ≡ Some s) number (sym c.signal.ensures ∙ ap (option_map declared_view) c.in-Some-signal.is) in
    let given = ap (λ (o : Option _). option_map value_view o) c.in-Some-given.is in
    let x = collected_by s.accumulator (Some (value_view c.in-Some-given.value)) own in
    accumulates d e c.class_of-class.result own (rest_of d e) (option_map value_view c.args.given) c.requires.known.1 of s declared c.requires.able
    ∙ ap (λ (o : Option machine.Value). leaves w (emitting (collected_by s.accumulator o own) hs ∷ rest_of d e)) given
    ∙ leaves_as w (world_of new.world) (emitting x hs ∷ rest_of d e) (agenda_of d new) (sym (tasks_world e new only))
    (sym (ap (λ (y : Engine). agenda_of d y) only.beside ∙ c.collect.ensures.emits.tasks d hs ∙ ap (λ (y : Emitted). emitting y hs ∷ rest_of d e) c.collect.ensures.emission))

pub returns-clause-counted : goal.returns-clause-counted
returns-clause-counted c =
    let d = c.args.definition.now in
    let e = c.args.engine.now in
    let hs = e.world.handlers.handlers in
    let own = first_emitted e in
    let a = option_map accumulator_of c.in-Some-signal.signal.accumulator in
    let given = Some (value_view c.in-Some-given.value) in
    let is = c.collect.ensures.emission in
    collected_keeps d e c.collect.new.engine c.requires.first c.collect.ensures.only c.collect.ensures.emits (collected_by a given own) is
    (λ o. omega (arith, c.collect.ensures.counts o, ap (λ (y : Emitted). in_register o y.walk.value) is))
    (collects_object own.walk hs own.args own.by_event a given) refl (λ last known. still_known last hs own a given known)
