use Rattle.std.proofs.Common.{[], ap, sym, ◌∙◌, refl, rules}
use Rattle.ui_machine.specs.Instructions.Objects.{freezing}
use Rattle.ui_machine.specs.Instructions.Registers.{goes_on}
use Rattle.ui_machine.specs.Rules.NotifyQueue.{frozen_more}
use Rattle.ui_machine.specs.State.Config.{World}
use Rattle.engine_world.specs.Counting.{nothing}
use Rattle.engine_world.specs.View.{world_of}
use Rattle.engine_world.proofs.Counts.{keeps_change, with_table}
use Rattle.engine_instructions.proofs.Jumping.{goes_on_left, stuck_left}
use Rattle.engine_instructions.proofs.ObjectSteps.{freeze_none, freeze_stuck, freezes}
use Rattle.engine_instructions.proofs.Pushed.{freeze_alike, objects_world}
use Rattle.engine_world.proofs.Registers.{stops_left}
use Rattle.ui_machine.specs.declared.arm.Halt.TheVariants as halts
use Rattle.engine_world.proofs.Ableness.{is_ok, no_arm, none_stops}
use Rattle.engine_world.specs.FirstPrograms.{first_frame, rest_of}
use Rattle.engine_world.proofs.FirstPrograms.{begins}
use Rattle.engine_instructions.proofs.objects.freeze_notify.Goals as goal

pub object_in-object-requires : goal.object_in-object-requires
object_in-object-requires c = record {
  first = c.requires.first;
  able =
      let e = c.args.engine.now in
      let w = world_of e.world in
      let f = first_frame c.args.engine.now in
      none_stops _ (λ arm none. no_arm _ arm c.requires.able
      (stops_left e.counted (rest_of c.args.definition.now e) (freezing w f c.args.object.0) (halts.Stuck arm) (freeze_none w f c.args.object.0 (halts.Stuck arm) none)));
}

pub freeze-requires : goal.freeze-requires
freeze-requires c = record {
  able =
      let e = c.args.engine.now in
      let w = world_of e.world in
      let f = first_frame c.args.engine.now in
      is_ok _ (λ arm is. no_arm _ arm c.requires.able
      (stuck_left c.args.definition.now e (freezing w f c.args.object.0) arm
      (freeze_stuck w f c.args.object.0 c.object_in-object.result.0 c.object_in-object.ensures arm is)));
}

pub returns : goal.returns
returns c = record {
  step =
      let d = c.args.definition.now in
      let e = c.args.engine.now in
      let w = world_of e.world in
      let f = first_frame c.args.engine.now in
      let t = c.freeze.new.self in
      goes_on_left d (with_table e t) (with_table e t) f (freezing w f c.args.object.0)
      (freezes w f c.args.object.0 c.object_in-object.result.0 c.object_in-object.ensures t.objects c.freeze.ensures.changes
      ∙ ap (λ (v : World). goes_on v [] f) (sym (objects_world e t c.freeze.ensures.beside)))
      refl (begins d (with_table e t) c.requires.first);
  quiet = search rules;
  counted =
      let d = c.args.definition.now in
      let e = c.args.engine.now in
      let f = first_frame c.args.engine.now in
      let t = c.freeze.new.self in
      ((keeps_change d e t c.object_in-object.result.0 frozen_more tt (freeze_alike d) c.freeze.ensures.changes c.freeze.ensures.beside).at nothing c.requires.counted);
  room = search rules;
}
