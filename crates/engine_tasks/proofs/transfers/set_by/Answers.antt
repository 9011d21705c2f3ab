use Rattle.std.proofs.Common.{List, ◌∷◌, refl, ap, ◌∙◌, rules}
use Rattle.ui_machine.specs.State.Tasks.{Setting, Task}
use Rattle.bindings.specs.Made.{Made}
use Rattle.g_values.specs.View.{value_view}
use Rattle.engine_world.specs.View.{world_of}
use Rattle.engine_world.proofs.Counts.{keeps_on, keeps_same}
use Rattle.engine_world.proofs.Held.{lives_still, may_on, pushes_one}
use Rattle.engine_tasks.proofs.transfers.set_by.Goals as goal

pub push_task-requires-2-clause-may : goal.push_task-requires-2-clause-may
push_task-requires-2-clause-may c =
    let d = c.args.definition.now in
    let e = c.args.engine.now in
    let m = record e { world = record e.world { bindings = c.setting.new.self } } in
    let b = c.push_task.new.engine in
    let id = c.args.transfer.target.0 in
    pushes_one b _ id (λ d o. refl)
    (may_on d e b id c.requires.counted (keeps_on d e m b (keeps_same d e m refl refl refl (λ g. g) refl refl refl refl) (c.push_task.ensures.counted d)) (lives_still m b id c.push_task.ensures.world c.requires.live))

pub returns : goal.returns
returns c = record {
  step =
      let d = c.args.definition.now in
      let e = c.args.engine.now in
      let t = c.args.transfer in
      let world = c.push_task-2.ensures.world ∙ c.push_task.ensures.world ∙ ap (λ (m : Made). record (world_of e.world) { bindings = m.bindings }) c.setting.ensures in
      let agenda = c.push_task-2.ensures.agenda d ∙ ap (λ (ts : List Task). Setting t.target.0 t.target_slot (value_view c.in-Some.value) ∷ ts) (c.push_task.ensures.agenda d) in
      let count = c.push_task-2.ensures.same ∙ c.push_task.ensures.same in
      rw (c.in-Some.is, world, agenda, count) refl;
  quiet = search rules;
  counted =
      let d = c.args.definition.now in
      keeps_on d _ _ _ (keeps_same d c.args.engine.now _ refl refl refl (λ g. g) refl refl refl refl) (keeps_on d _ _ _ (c.push_task.ensures.counted d) (c.push_task-2.ensures.counted d));
  room = search rules;
}
