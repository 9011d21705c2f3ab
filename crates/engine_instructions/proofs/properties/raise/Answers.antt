use Rattle.std.proofs.Common.{refl, rules}
use Rattle.ui_machine.specs.Rules.NotifyQueue.{raised}
use Rattle.ui_machine.specs.Rules.Sets.{raising}
use Rattle.ui_machine.specs.State.Objects.{changed}
use Rattle.engine_world.proofs.Ableness.{first, in_uncounted}
use Rattle.engine_world.proofs.Counts.{keeps_on, keeps_change, raised_alike, still_counted, with_table}
use Rattle.engine_world.proofs.Held.{pushes_one}
use Rattle.engine_world.proofs.LivingObjects.{lives_changed, lives_on}
use Rattle.engine_instructions.proofs.properties.raise.Goals as goal

pub add-requires : goal.add-requires
unfolding raising
add-requires c = record {
  live =
      let e = c.args.engine.now in
      lives_changed e.world.table.objects c.args.object.0 (raised c.args.slot)
      (first (changed e.world.table.objects c.args.object.0 (raised c.args.slot)) _ (in_uncounted _ e.counted _ c.requires.able));
}

pub push_task-requires-clause-may : goal.push_task-requires-clause-may
push_task-requires-clause-may c =
    let d = c.args.definition.now in
    let e = c.args.engine.now in
    let id = c.args.object.0 in
    let t = c.add.new.self in
    let changes = c.in_ok-add.ensures.changes in
    pushes_one (with_table e t) _ id (λ d o. refl) (record {
      d = d;
      counted = still_counted d e (with_table e t) (keeps_change d e t id (raised c.args.slot) _ (raised_alike d c.args.slot) changes c.add.ensures.beside) c.requires.counted;
      lives = lives_on e.world.table.objects id (raised c.args.slot) _ changes;
    })

pub returns-then-branch : goal.returns-then-branch
unfolding raising
returns-then-branch c = record {
  step =
      let pushed = c.push_task.ensures.agenda c.args.definition.now in
      let changes = c.in_ok-add.ensures.changes in
      rw (c.push_task.ensures.world, c.push_task.ensures.same, pushed) (search rules);
  quiet = search rules;
  counted =
      let d = c.args.definition.now in
      keeps_on d _ _ _ (keeps_change d c.args.engine.now c.add.new.self c.args.object.0 (raised c.args.slot) _ (raised_alike d c.args.slot) c.in_ok-add.ensures.changes c.add.ensures.beside)
      (c.push_task.ensures.counted d);
  room = search rules;
}

pub returns-else-branch : goal.returns-else-branch
unfolding raising
returns-else-branch c = record {
  step = search rules;
  quiet = search rules;
  counted =
      let d = c.args.definition.now in
      keeps_change d c.args.engine.now c.add.new.self c.args.object.0 (raised c.args.slot) _ (raised_alike d c.args.slot) c.in_ok-add.ensures.changes c.add.ensures.beside;
  room = search rules;
}
