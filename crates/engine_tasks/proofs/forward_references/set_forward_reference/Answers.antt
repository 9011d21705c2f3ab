use Rattle.std.proofs.Common.{◌≡◌, ℕ, List, [], ◌∷◌, refl, sym, ap, subst, ◌∙◌, rules}
use Rattle.ui_machine.specs.Definition.Values.{Value}
use Rattle.ui_machine.specs.State.Tasks.{Item, Task, Setting, Building}
use Rattle.ui_machine.specs.State.Config.{starts}
use Rattle.engine_world.specs.EngineView.{config_of}
use Rattle.ui_machine.specs.Rules.Build.{held_object, building, building_forward, set_forward}
use Rattle.ui_machine.specs.Rules.Sets.{spec_at}
use Rattle.ui_machine.specs.Steps.{uncounted}
use Rattle.g_values.specs.View.{value_view}
use Rattle.engine_stack.specs.declared.task.ForwardReference.{ForwardReference}
use Rattle.engine_world.specs.View.{world_of}
use Rattle.engine_world.specs.TaskView.{agenda_of}
use Rattle.engine_stack.specs.TaskView.{build_end}
use Rattle.engine_world.proofs.Building.{only_forwards}
use Rattle.engine_world.proofs.Forwarded.{held_then}
use Rattle.engine_world.proofs.Counts.{keeps_on}
use Rattle.engine_world.specs.Able.{Leads}
use Rattle.engine_world.proofs.Ableness.{able_as, in_uncounted}
use Rattle.engine_world.proofs.Held.{lives_still, may_on, pushes_one}
use Rattle.engine_world.proofs.Named.{names_there}
use Rattle.engine_tasks.proofs.Settable.{sets_on}
use Rattle.engine_tasks.proofs.forward_references.set_forward_reference.Goals as goal

-- no reference is left: the bindings come next
pub returns-in_default : goal.returns-in_default
returns-in_default c = record {
  step =
      let d = c.args.definition.now in
      let w = world_of c.args.engine.now.world in
      let rest = agenda_of d c.args.engine.now in
      let n = c.args.engine.now.counted in
      let items = ap (λ (fs : List ForwardReference). build_end d fs) c.in_default.ensures.0 in
      subst (λ (its : List Item). Leads c.bind_from_build.result (uncounted rest n (building d w its)) (config_of d c.bind_from_build.new.engine)) (sym items) c.bind_from_build.ensures.step;
  quiet = search rules;
  counted = search rules;
  room = search rules;
}

pub push_task-requires-2-clause-may : goal.push_task-requires-2-clause-may
unfolding building_forward set_forward
push_task-requires-2-clause-may c =
    let a = c.args in
    let d = a.definition.now in
    let e = a.engine.now in
    let w = world_of e.world in
    let b = c.push_task.new.engine in
    let f = c.in-Some.forward in
    let items = build_end d c.take.new.self in
    let object = c.held_object-object.result.0 in
    let v = value_view c.held_value-value.result in
    let set = λ (id : ℕ). set_forward w id f.slot f.to.0 items in
    let first = ap (λ (fs : List ForwardReference). building d w (build_end d fs)) c.in-Some.ensures in
    let is : building d w (build_end d a.forwards) ≡ starts w (Setting object f.slot v ∷ Building items ∷ []) =
    first
    ∙ sets_on (held_object w f.object.0) (λ (id : ℕ). spec_at d w.objects id f.slot) set object c.held_object-object.ensures (able_as first (in_uncounted _ _ _ c.requires.able))
    ∙ held_then (held_object w f.to.0) (λ (x : Value). starts w (Setting object f.slot x ∷ Building items ∷ [])) v c.held_value-value.ensures in
    let names = names_there _ (record { world = w; agenda = Setting object f.slot v ∷ Building items ∷ agenda_of d e; counted = e.counted }) (ap (uncounted (agenda_of d e) e.counted) is) c.requires.names in
    pushes_one b _ object (λ d o. refl) (may_on d e b object c.requires.counted (c.push_task.ensures.counted d) (lives_still e b object c.push_task.ensures.world names.0.0))

pub returns : goal.returns
unfolding building_forward set_forward
returns c = record {
  step =
      let a = c.args in
      let d = a.definition.now in
      let w = world_of a.engine.now.world in
      let agenda = agenda_of d a.engine.now in
      let n = a.engine.now.counted in
      let f = c.in-Some.forward in
      let items = build_end d c.take.new.self in
      let object = c.held_object-object.result.0 in
      let v = value_view c.held_value-value.result in
      let set = λ (id : ℕ). set_forward w id f.slot f.to.0 items in
      let to = c.held_value-value.ensures in
      let first = ap (λ (fs : List ForwardReference). building d w (build_end d fs)) c.in-Some.ensures in
      let is : building d w (build_end d a.forwards) ≡ starts w (Setting object f.slot v ∷ Building items ∷ []) =
      first
      ∙ sets_on (held_object w f.object.0) (λ (id : ℕ). spec_at d w.objects id f.slot) set object c.held_object-object.ensures (able_as first (in_uncounted _ _ _ c.requires.able))
      ∙ held_then (held_object w f.to.0) (λ (x : Value). starts w (Setting object f.slot x ∷ Building items ∷ [])) v to in
      let left = c.push_task-2.ensures.agenda d
      ∙ ap (λ (rest : List Task). Setting object f.slot v ∷ rest) (c.push_task.ensures.agenda d
      ∙ ap (λ its. Building its ∷ agenda) (only_forwards d c.types-types.ensures.basic a.place.0 c.take.new.self c.requires.past)) in
      ap (uncounted agenda n) is
      ∙ rw (c.push_task-2.ensures.world, c.push_task.ensures.world, c.push_task-2.ensures.same, c.push_task.ensures.same, left) refl;
  quiet = search rules;
  counted =
      let d = c.args.definition.now in
      keeps_on d _ _ _ (c.push_task.ensures.counted d) (c.push_task-2.ensures.counted d);
  room = search rules;
}
