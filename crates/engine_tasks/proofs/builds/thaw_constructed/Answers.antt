use Rattle.std.proofs.Common.{◌∷◌, ◌∙◌, List, ap, refl, rules, sym, arith}
use Rattle.ui_machine.specs.Rules.Construction.{thawing_made}
use Rattle.ui_machine.specs.Rules.NotifyQueue.{frozen_less}
use Rattle.ui_machine.specs.State.Tasks.{Task, Thawing}
use Rattle.engine_world.specs.Counting.{nothing}
use Rattle.engine_world.proofs.Ableness.{first, in_uncounted}
use Rattle.engine_world.proofs.Counts.{frozen_alike, keeps_change, keeps_on, with_table}
use Rattle.engine_world.proofs.FirstConstructions.{begins}
use Rattle.engine_world.proofs.Held.{may_on, pushes_one}
use Rattle.engine_world.proofs.LivingObjects.{lives_on}
use Rattle.engine_tasks.proofs.Asking.{answers}
use Rattle.engine_tasks.proofs.builds.thaw_constructed.Goals as goal

pub thaw-slots-requires : goal.thaw-slots-requires
unfolding thawing_made
thaw-slots-requires c = record { able = rw c.first_object-object.ensures (answers _ (first _ _ (in_uncounted _ _ _ c.requires.able))) }

pub push_task-requires-clause-may : goal.push_task-requires-clause-may
push_task-requires-clause-may c =
    let d = c.args.definition.now in
    let e = c.args.engine.now in
    let b = with_table e c.thaw-slots.new.self in
    let id = c.first_object-object.result.0 in
    pushes_one b _ id (λ d o. refl)
    (may_on d e b id (record { taken = nothing; counts = c.requires.counted; little = λ o. omega arith })
    (keeps_change d e c.thaw-slots.new.self id frozen_less _ (frozen_alike d) c.thaw-slots.ensures.changes c.thaw-slots.ensures.beside)
    (lives_on e.world.table.objects id frozen_less _ c.thaw-slots.ensures.changes))

pub returns : goal.returns
unfolding thawing_made
returns c = record {
  step =
      let d = c.args.definition.now in
      let e = c.args.engine.now in
      let is = c.first_object-object.ensures in
      let agenda = c.push_task.ensures.agenda d ∙ ap (λ (ts : List Task). Thawing c.first_object-object.result.0 c.new.result ∷ ts) (begins d e c.requires.first) in
      rw (c.push_task.ensures.world, c.push_task.ensures.same, agenda, sym is, c.thaw-slots.ensures.changes) (search rules);
  quiet = search rules;
  counted =
      let d = c.args.definition.now in
      let e = c.args.engine.now in
      (keeps_on d _ _ _ (keeps_change d e c.thaw-slots.new.self c.first_object-object.result.0 frozen_less _ (frozen_alike d) c.thaw-slots.ensures.changes c.thaw-slots.ensures.beside) (c.push_task.ensures.counted d)).at nothing c.requires.counted;
  room = search rules;
}
