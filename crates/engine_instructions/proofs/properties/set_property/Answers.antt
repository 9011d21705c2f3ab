use Rattle.std.proofs.Common.{[], ◌∷◌, refl, ap, ◌∙◌, rules}
use Rattle.g_values.specs.View.{value_view}
use Rattle.ui_machine.specs.Instructions.Properties.{set_property}
use Rattle.ui_machine.specs.State.Tasks.{Setting}
use Rattle.engine_world.specs.Counting.{nothing}
use Rattle.engine_world.specs.View.{world_of}
use Rattle.engine_world.proofs.Held.{pushes_one}
use Rattle.engine_instructions.proofs.Holding.{lives_held}
use Rattle.engine_instructions.proofs.ObjectSteps.{operand_lives}
use Rattle.engine_instructions.proofs.PropertySteps.{set_operand, set_slot, set_value, sets, settable_is, settable_named}
use Rattle.engine_world.proofs.Ableness.{instructed}
use Rattle.engine_instructions.proofs.Starting.{started_left}
use Rattle.engine_world.specs.FirstPrograms.{first_frame, rest_of}
use Rattle.engine_world.proofs.FirstPrograms.{begins}
use Rattle.engine_instructions.proofs.properties.set_property.Goals as goal

pub object_in-object-requires : goal.object_in-object-requires
object_in-object-requires c = record {
  first = c.requires.first;
  able =
      let e = c.args.engine.now in
      set_operand c.args.definition.now (world_of e.world) (first_frame c.args.engine.now) c.args.object.0 c.args.property.now c.args.from.0 (instructed e.counted (rest_of c.args.definition.now e) _ c.requires.able);
}

pub slot_at-slot-requires : goal.slot_at-slot-requires
slot_at-slot-requires c = record {
  able =
      let d = c.args.definition.now in
      let e = c.args.engine.now in
      let id = c.object_in-object.result.0 in
      settable_named d (world_of e.world) id c.args.property.now
      (set_slot d (world_of e.world) (first_frame c.args.engine.now) c.args.object.0 c.args.property.now c.args.from.0 id c.object_in-object.ensures (instructed e.counted (rest_of d e) _ c.requires.able));
  link = c.requires.link;
}

pub value_in-requires : goal.value_in-requires
value_in-requires c = record {
  first = c.requires.first;
  able =
      let d = c.args.definition.now in
      let e = c.args.engine.now in
      let w = world_of e.world in
      let f = first_frame c.args.engine.now in
      let id = c.object_in-object.result.0 in
      let may = instructed e.counted (rest_of d e) _ c.requires.able in
      let is = settable_is d w id c.args.property.now c.slot_at-slot.result c.slot_at-slot.ensures (set_slot d w f c.args.object.0 c.args.property.now c.args.from.0 id c.object_in-object.ensures may) in
      set_value d w f c.args.object.0 c.args.property.now c.args.from.0 id c.object_in-object.ensures c.slot_at-slot.result is may;
}

pub push_task-requires-clause-may : goal.push_task-requires-clause-may
push_task-requires-clause-may c =
    let d = c.args.definition.now in
    let e = c.args.engine.now in
    let f = first_frame c.args.engine.now in
    let id = c.object_in-object.result.0 in
    pushes_one e _ id (λ d o. refl)
    (lives_held d e id c.requires.counted
    ((operand_lives (world_of e.world) f c.args.object.0 id c.object_in-object.ensures)))

pub returns : goal.returns
returns c = record {
  step =
      let d = c.args.definition.now in
      let e = c.args.engine.now in
      let w = world_of e.world in
      let f = first_frame c.args.engine.now in
      let id = c.object_in-object.result.0 in
      let slot = c.slot_at-slot.result in
      let may = instructed e.counted (rest_of d e) _ c.requires.able in
      let is = settable_is d w id c.args.property.now slot c.slot_at-slot.ensures (set_slot d w f c.args.object.0 c.args.property.now c.args.from.0 id c.object_in-object.ensures may) in
      let v = value_view c.in_ok-value.value in
      started_left e.counted (rest_of d e) (set_property d w f c.args.object.0 c.args.property.now c.args.from.0) w (Setting id slot v ∷ []) f _ _ _
      (sets d w f c.args.object.0 c.args.property.now c.args.from.0 id c.object_in-object.ensures slot is v c.in_ok-value.ensures)
      c.push_task.ensures.world
      (c.push_task.ensures.agenda d ∙ ap (λ ts. Setting id slot v ∷ ts) (begins d e c.requires.first))
      c.push_task.ensures.same;
  quiet = search rules;
  counted =
      let d = c.args.definition.now in
      (c.push_task.ensures.counted d).at nothing
      c.requires.counted;
  room = search rules;
}
