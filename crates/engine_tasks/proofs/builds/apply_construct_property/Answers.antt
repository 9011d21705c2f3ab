use Rattle.std.proofs.Common.{Ok, Err, ◌≡◌, ap, subst, sym, ℕ, List, refl, [], ◌∙◌, ◌∷◌, IsSome, arith, rules}
use Rattle.ui_machine.specs.Definition.Properties.{is_writable, Spec}
use Rattle.ui_machine.specs.Rules.Construction.{apply_construct_property}
use Rattle.ui_machine.specs.declared.arm.Arm.TheVariants as arms
use Rattle.ui_machine.specs.Definition.{Definition}
use Rattle.engine_world.specs.Able.{Able}
use Rattle.ui_machine.specs.Outcome.{Answer, only_if, ◌>>=◌}
use Rattle.engine_world.specs.View.{world_of}
use Rattle.ui_machine.specs.Definition.Values.{Value}
use Rattle.ui_machine.specs.Steps.{uncounted}
use Rattle.ui_machine.specs.State.Config.{World, starts}
use Rattle.ui_machine.specs.State.Objects.{living}
use Rattle.ui_machine.specs.State.Tasks.{Setting, Task}
use Rattle.engine_world.specs.Counting.{nothing}
use Rattle.engine_world.specs.FirstConstructions.{first_constructed}
use Rattle.engine_stack.specs.FirstConstructions.{constructing_task}
use Rattle.engine_world.specs.FirstPrograms.{rest_of}
use Rattle.engine_world.proofs.Ableness.{in_uncounted, tested}
use Rattle.engine_world.proofs.FirstConstructions.{begins}
use Rattle.g_values.specs.View.{value_view}
use Rattle.ui_machine.specs.Rules.Sets.{spec_at}
use Rattle.engine_world.proofs.Held.{pushes_one}
use Rattle.engine_tasks.proofs.builds.apply_construct_property.Goals as goal

module _ (d : Definition) (w : World) (id slot : ℕ) (v : Value) (tasks : List Task) where
  applies : Able (apply_construct_property d w id slot v tasks) → apply_construct_property d w id slot v tasks ≡ starts w (Setting id slot v ∷ tasks)
  unfolding apply_construct_property
  applies = by (spec_at d w.objects id slot)
    where
      by : (found : Answer Spec) → Able (found >>= λ s. only_if (is_writable s) arms.Flags (starts w (Setting id slot v ∷ tasks)))
          → (found >>= λ s. only_if (is_writable s) arms.Flags (starts w (Setting id slot v ∷ tasks))) ≡ starts w (Setting id slot v ∷ tasks)
      by (Ok s) able =
          ap (λ b. only_if b arms.Flags (starts w (Setting id slot v ∷ tasks))) (tested (is_writable s) arms.Flags (starts w (Setting id slot v ∷ tasks)) able)
      by (Err arm) able = absurd able

pub push_task-requires-clause-may : goal.push_task-requires-clause-may
push_task-requires-clause-may c =
    let e = c.args.engine.now in
    pushes_one e _ c.first_object-object.result.0 (λ d o. refl)
    (record {
      d = c.args.definition.now;
      counted = record { taken = nothing; counts = c.requires.counted; little = λ o. omega arith };
      lives = subst (λ id. IsSome (living e.world.table.objects id)) (sym c.first_object-object.ensures) c.requires.live;
    })

pub returns : goal.returns
returns c = record {
  step =
      let d = c.args.definition.now in
      let e = c.args.engine.now in
      let own = first_constructed e in
      let set : ℕ → Task = λ id. Setting id c.args.slot (value_view c.args.value) in
      let agenda = c.push_task.ensures.agenda d ∙ ap (λ (ts : List Task). set c.first_object-object.result.0 ∷ ts) (begins d e c.requires.first)
      ∙ ap (λ id. set id ∷ constructing_task own ∷ rest_of d e) c.first_object-object.ensures in
      ap (uncounted (rest_of d e) e.counted)
      (applies d (world_of e.world) own.object c.args.slot (value_view c.args.value) (constructing_task own ∷ []) (in_uncounted _ _ _ c.requires.able))
      ∙ rw (c.push_task.ensures.world, c.push_task.ensures.same, agenda) refl;
  quiet = search rules;
  counted = (c.push_task.ensures.counted c.args.definition.now).at nothing c.requires.counted;
  room = search rules;
}
