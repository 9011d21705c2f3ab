use Rattle.std.proofs.Common.{◌≡◌, true, false, [], rules, refl}
use Rattle.param_specs.specs.View.{spec_view}
use Rattle.ui_machine.specs.Definition.Properties.{is_readable}
use Rattle.ui_machine.specs.Instructions.Properties.{notify_from_program}
use Rattle.ui_machine.specs.Rules.Sets.{raising}
use Rattle.ui_machine.specs.State.Config.{World}
use Rattle.engine_world.specs.Counting.{KeepsCounts, nothing}
use Rattle.engine_world.specs.View.{world_of}
use Rattle.engine_instructions.proofs.Holding.{all_counted}
use Rattle.engine_instructions.proofs.Jumping.{stuck_left}
use Rattle.engine_instructions.proofs.PropertySteps.{tell_no_spec, tell_operand, tell_slot, tells, tells_nothing}
use Rattle.engine_instructions.proofs.Pushed.{leads_before, raising_able}
use Rattle.engine_world.proofs.Ableness.{able_as, instructed, no_arm, none_stops}
use Rattle.engine_instructions.proofs.Starting.{started_left}
use Rattle.engine_world.proofs.Registers.{on_ok}
use Rattle.engine_world.specs.FirstPrograms.{first_frame, rest_of}
use Rattle.engine_world.proofs.FirstPrograms.{begins}
use Rattle.engine_instructions.proofs.properties.notify_from_program.Goals as goal

pub object_in-object-requires : goal.object_in-object-requires
object_in-object-requires c = record {
  first = c.requires.first;
  able =
      let e = c.args.engine.now in
      tell_operand c.args.definition.now (world_of e.world) (first_frame c.args.engine.now) c.args.object.0 c.args.property.now (instructed e.counted (rest_of c.args.definition.now e) _ c.requires.able);
}

pub slot_at-slot-requires : goal.slot_at-slot-requires
slot_at-slot-requires c = record {
  able =
      let e = c.args.engine.now in
      tell_slot c.args.definition.now (world_of e.world) (first_frame c.args.engine.now) c.args.object.0 c.args.property.now c.object_in-object.result.0 c.object_in-object.ensures
      (instructed e.counted (rest_of c.args.definition.now e) _ c.requires.able);
  link = c.requires.link;
}

pub spec_of-spec-requires : goal.spec_of-spec-requires
spec_of-spec-requires c = record {
  able =
      let d = c.args.definition.now in
      let e = c.args.engine.now in
      none_stops _ (λ arm none. no_arm _ arm c.requires.able
      (stuck_left d e (notify_from_program d (world_of e.world) (first_frame c.args.engine.now) c.args.object.0 c.args.property.now) arm
      (tell_no_spec d (world_of e.world) (first_frame c.args.engine.now) c.args.object.0 c.args.property.now c.object_in-object.result.0 c.object_in-object.ensures c.slot_at-slot.result c.slot_at-slot.ensures arm none)));
}

pub raise-requires : goal.raise-requires
raise-requires c = record {
  able =
      let d = c.args.definition.now in
      let e = c.args.engine.now in
      let f = first_frame c.args.engine.now in
      let id = c.object_in-object.result.0 in
      let slot = c.slot_at-slot.result in
      let s = spec_view c.spec_of-spec.result.now in
      let readable : is_readable s ≡ true = search rules in
      raising_able d e e f refl (λ (v : World). raising v id slot)
      (able_as (tells d (world_of e.world) f c.args.object.0 c.args.property.now id c.object_in-object.ensures slot c.slot_at-slot.ensures s c.spec_of-spec.ensures.spec readable) (instructed e.counted (rest_of d e) _ c.requires.able));
  counted = all_counted c.args.definition.now c.args.engine.now c.requires.counted;
  room = c.requires.room;
}

pub returns-then-not-is_readable : goal.returns-then-not-is_readable
returns-then-not-is_readable c = record {
  step =
      let d = c.args.definition.now in
      let e = c.args.engine.now in
      let w = world_of e.world in
      let f = first_frame c.args.engine.now in
      let s = spec_view c.spec_of-spec.result.now in
      let unreadable : is_readable s ≡ false = search rules in
      started_left e.counted (rest_of d e) (notify_from_program d w f c.args.object.0 c.args.property.now) w [] f _ _ _
      (tells_nothing d w f c.args.object.0 c.args.property.now c.object_in-object.result.0 c.object_in-object.ensures c.slot_at-slot.result c.slot_at-slot.ensures s c.spec_of-spec.ensures.spec unreadable)
      refl (begins d e c.requires.first) refl;
  quiet = search rules;
  counted =
      let d = c.args.definition.now in
      c.requires.counted;
  room = search rules;
}

pub returns : goal.returns
returns c = record {
  step =
      let d = c.args.definition.now in
      let e = c.args.engine.now in
      let w = world_of e.world in
      let f = first_frame c.args.engine.now in
      let id = c.object_in-object.result.0 in
      let slot = c.slot_at-slot.result in
      let s = spec_view c.spec_of-spec.result.now in
      let readable : is_readable s ≡ true = search rules in
      rw (tells d w f c.args.object.0 c.args.property.now id c.object_in-object.ensures slot c.slot_at-slot.ensures s c.spec_of-spec.ensures.spec readable)
      (leads_before d e e f refl c.raise.result (λ (v : World). raising v id slot) _ (begins d e c.requires.first) c.raise.ensures.step);
  quiet = search rules;
  counted =
      on_ok c.raise.result
      (λ (k : KeepsCounts c.args.definition.now c.args.engine.now c.raise.new.engine). k.at nothing c.requires.counted) c.raise.ensures.counted;
  room = search rules;
}
