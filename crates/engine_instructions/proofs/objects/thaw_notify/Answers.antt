use Rattle.std.proofs.Common.{List, ℕ, [], ◌∷◌, refl, ap, reverse, ◌∙◌, rules}
use Rattle.ui_machine.specs.Instructions.Objects.{thaw_notify}
use Rattle.ui_machine.specs.Rules.NotifyQueue.{frozen_less}
use Rattle.ui_machine.specs.State.Config.{with_objects}
use Rattle.ui_machine.specs.State.Tasks.{Running, Thawing}
use Rattle.engine_world.specs.Counting.{nothing}
use Rattle.engine_world.specs.View.{world_of}
use Rattle.engine_world.proofs.Counts.{frozen_alike, keeps_change, with_table}
use Rattle.engine_world.proofs.Held.{pushes_one}
use Rattle.engine_instructions.proofs.Holding.{lives_held}
use Rattle.engine_instructions.proofs.Jumping.{stuck_left}
use Rattle.engine_instructions.proofs.ObjectSteps.{thaw_none, thaw_stuck, thaws}
use Rattle.engine_instructions.proofs.Pushed.{objects_world}
use Rattle.engine_world.proofs.Registers.{stops_left}
use Rattle.engine_instructions.proofs.Starting.{started_left}
use Rattle.ui_machine.specs.declared.arm.Halt.TheVariants as halts
use Rattle.engine_world.proofs.Ableness.{is_ok, no_arm, none_stops}
use Rattle.engine_world.proofs.LivingObjects.{lives_on}
use Rattle.engine_world.specs.FirstPrograms.{first_frame, rest_of}
use Rattle.engine_world.proofs.FirstPrograms.{begins}
use Rattle.engine_instructions.proofs.objects.thaw_notify.Goals as goal

pub object_in-object-requires : goal.object_in-object-requires
object_in-object-requires c = record {
  first = c.requires.first;
  able =
      let e = c.args.engine.now in
      let w = world_of e.world in
      let f = first_frame c.args.engine.now in
      none_stops _ (λ arm none. no_arm _ arm c.requires.able
      (stops_left e.counted (rest_of c.args.definition.now e) (thaw_notify w f c.args.object.0) (halts.Stuck arm) (thaw_none w f c.args.object.0 (halts.Stuck arm) none)));
}

pub thaw-slots-requires : goal.thaw-slots-requires
thaw-slots-requires c = record {
  able =
      let e = c.args.engine.now in
      let w = world_of e.world in
      let f = first_frame c.args.engine.now in
      is_ok _ (λ arm is. no_arm _ arm c.requires.able
      (stuck_left c.args.definition.now e (thaw_notify w f c.args.object.0) arm
      (thaw_stuck w f c.args.object.0 c.object_in-object.result.0 c.object_in-object.ensures arm is)));
}

pub push_task-requires-clause-may : goal.push_task-requires-clause-may
push_task-requires-clause-may c =
    let d = c.args.definition.now in
    let e = c.args.engine.now in
    let f = first_frame c.args.engine.now in
    let t = c.thaw-slots.new.self in
    let m = with_table e t in
    let id = c.object_in-object.result.0 in
    let changes = c.thaw-slots.ensures.changes in
    pushes_one m _ id (λ d o. refl)
    (lives_held d m id
    ((keeps_change d e t id frozen_less _ (frozen_alike d) changes c.thaw-slots.ensures.beside).at nothing c.requires.counted)
    ((lives_on e.world.table.objects id frozen_less _ changes)))

pub returns : goal.returns
returns c = record {
  step =
      let d = c.args.definition.now in
      let e = c.args.engine.now in
      let w = world_of e.world in
      let f = first_frame c.args.engine.now in
      let t = c.thaw-slots.new.self in
      let m = with_table e t in
      let id = c.object_in-object.result.0 in
      let slots = reverse c.thaw-slots.result.items in
      started_left e.counted (rest_of d e) (thaw_notify w f c.args.object.0) (with_objects w t.objects) (Thawing id slots ∷ []) f _ _ _
      (thaws w f c.args.object.0 id c.object_in-object.ensures t.objects slots c.thaw-slots.ensures.changes)
      (c.push_task.ensures.world ∙ objects_world e t c.thaw-slots.ensures.beside)
      (c.push_task.ensures.agenda d ∙ ap (λ ts. Thawing id c.new.result ∷ ts) (begins d (with_table e t) c.requires.first) ∙ ap (λ (l : List ℕ). Thawing id l ∷ Running f ∷ rest_of d e) c.new.ensures)
      c.push_task.ensures.same;
  quiet = search rules;
  counted =
      let d = c.args.definition.now in
      let e = c.args.engine.now in
      let f = first_frame c.args.engine.now in
      let t = c.thaw-slots.new.self in
      (c.push_task.ensures.counted d).at nothing
      (((keeps_change d e t c.object_in-object.result.0 frozen_less _ (frozen_alike d) c.thaw-slots.ensures.changes c.thaw-slots.ensures.beside).at nothing c.requires.counted));
  room = search rules;
}
