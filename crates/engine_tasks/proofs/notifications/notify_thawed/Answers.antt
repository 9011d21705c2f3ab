use Rattle.std.proofs.Common.{refl, rules}
use Rattle.engine_world.proofs.Counts.{keeps_on}
use Rattle.engine_world.proofs.Held.{lives_still, may_on, pushes_one}
use Rattle.engine_tasks.proofs.notifications.notify_thawed.Goals as goal

pub push_task-requires-2-clause-may : goal.push_task-requires-2-clause-may
push_task-requires-2-clause-may c =
    let d = c.args.definition.now in
    let e = c.args.engine.now in
    let b = c.push_task.new.engine in
    pushes_one b _ c.args.object.0 (λ d o. refl)
    (may_on d e b c.args.object.0 c.requires.counted (c.push_task.ensures.counted d) (lives_still e b c.args.object.0 c.push_task.ensures.world c.requires.live))

pub returns : goal.returns
returns c = record {
  step =
      let first = c.push_task.ensures.agenda c.args.definition.now in
      let second = c.push_task-2.ensures.agenda c.args.definition.now in
      rw (c.push_task-2.ensures.world, c.push_task.ensures.world, c.push_task-2.ensures.same, c.push_task.ensures.same, second, first) (search rules);
  quiet = search rules;
  counted =
      let d = c.args.definition.now in
      keeps_on d _ _ _ (c.push_task.ensures.counted d) (c.push_task-2.ensures.counted d);
  room = search rules;
}
