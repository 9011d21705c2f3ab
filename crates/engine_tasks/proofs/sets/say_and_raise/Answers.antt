use Rattle.std.proofs.Common.{◌≡◌, true, refl, ap, string_bytes, rules, ◌∙◌}
use Rattle.ui_machine.specs.Rules.Sets.{raising, raising_if}
use Rattle.ui_machine.specs.Rules.NotifyQueue.{raised}
use Rattle.ui_machine.specs.State.Objects.{changed}
use Rattle.engine_world.proofs.Counts.{keeps_on, keeps_said, keeps_change, raised_alike}
use Rattle.engine_world.specs.View.{with_line, world_of}
use Rattle.engine_world.proofs.Ableness.{able_as, first, in_uncounted}
use Rattle.engine_world.proofs.Held.{may_on, pushes_one}
use Rattle.engine_world.proofs.LivingObjects.{lives_changed, lives_on}
use Rattle.engine_tasks.proofs.sets.say_and_raise.Goals as goal

pub add-requires : goal.add-requires
unfolding raising
add-requires c = record {
  live =
      let told : c.args.is_told ≡ true = search rules in
      let w = with_line (string_bytes c.args.line) (world_of c.args.engine.now.world) in
      let able = able_as (ap (λ b. raising_if b w c.args.object.0 c.args.slot) told) (in_uncounted _ _ _ c.requires.able) in
      lives_changed w.objects c.args.object.0 (raised c.args.slot) (first (changed w.objects c.args.object.0 (raised c.args.slot)) _ able);
}

pub push_task-requires-clause-may : goal.push_task-requires-clause-may
push_task-requires-clause-may c =
    let d = c.args.definition.now in
    let e = c.args.engine.now in
    let id = c.args.object.0 in
    pushes_one _ _ id (λ d o. refl)
    (may_on d e _ id c.requires.counted (keeps_change d e c.add.new.self id (raised c.args.slot) _ (raised_alike d c.args.slot) c.in_ok-add.ensures.changes c.add.ensures.beside)
    (lives_on e.world.table.objects id (raised c.args.slot) _ c.in_ok-add.ensures.changes))

pub returns-then-branch : goal.returns-then-branch
unfolding raising
returns-then-branch c = record {
  step =
      let told : c.args.is_told ≡ true = search rules in
      let pushed = c.push_task.ensures.agenda c.args.definition.now in
      let line = string_bytes c.args.line in
      let world = c.in_ok-say-2.ensures.ok ∙ ap (with_line line) c.push_task.ensures.world in
      rw (told, world, c.push_task.ensures.same, c.in_ok-say-2.ensures.handlers, pushed) (search rules);
  quiet = search rules;
  counted =
      let d = c.args.definition.now in
      keeps_on d _ _ _ (keeps_change d c.args.engine.now c.add.new.self c.args.object.0 (raised c.args.slot) _ (raised_alike d c.args.slot) c.in_ok-add.ensures.changes c.add.ensures.beside)
      (keeps_on d _ _ _ (c.push_task.ensures.counted d) (keeps_said d c.push_task.new.engine c.say-then-branch.new.self c.say-then-branch.ensures.beside));
  room = search rules;
}

pub returns : goal.returns
unfolding raising
returns c = record {
  step = search rules;
  quiet = search rules;
  counted =
      let d = c.args.definition.now in
      keeps_on d _ _ _ (keeps_change d c.args.engine.now c.add.new.self c.args.object.0 (raised c.args.slot) _ (raised_alike d c.args.slot) c.in_ok-add.ensures.changes c.add.ensures.beside)
      (keeps_said d _ c.say-2.new.self c.say-2.ensures.beside);
  room = search rules;
}
