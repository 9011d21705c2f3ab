use Rattle.std.proofs.Common.{[], ap, sym, ◌∙◌, refl, rules}
use Rattle.ui_machine.specs.Instructions.Objects.{sinking}
use Rattle.ui_machine.specs.Instructions.Registers.{goes_on}
use Rattle.ui_machine.specs.State.Config.{World}
use Rattle.engine_world.specs.Counting.{nothing}
use Rattle.engine_world.specs.View.{world_of}
use Rattle.engine_world.proofs.Counts.{with_table}
use Rattle.engine_instructions.proofs.Jumping.{goes_on_left}
use Rattle.engine_instructions.proofs.ObjectSteps.{sink_none, sinks}
use Rattle.engine_instructions.proofs.Pushed.{sunk_keeps, sunk_world}
use Rattle.engine_world.proofs.Registers.{stops_left}
use Rattle.ui_machine.specs.declared.arm.Halt.TheVariants as halts
use Rattle.engine_world.proofs.Ableness.{no_arm, none_stops}
use Rattle.engine_world.specs.FirstPrograms.{first_frame, rest_of}
use Rattle.engine_world.proofs.FirstPrograms.{begins}
use Rattle.engine_instructions.proofs.objects.sink.Goals as goal

pub object_in-object-requires : goal.object_in-object-requires
object_in-object-requires c = record {
  first = c.requires.first;
  able =
      let e = c.args.engine.now in
      let w = world_of e.world in
      let f = first_frame c.args.engine.now in
      none_stops _ (λ arm none. no_arm _ arm c.requires.able
      (stops_left e.counted (rest_of c.args.definition.now e) (sinking w f c.args.object.0) (halts.Stuck arm) (sink_none w f c.args.object.0 (halts.Stuck arm) none)));
}

pub returns : goal.returns
returns c = record {
  step =
      let d = c.args.definition.now in
      let e = c.args.engine.now in
      let w = world_of e.world in
      let f = first_frame c.args.engine.now in
      let t = c.sink.new.self in
      let id = c.object_in-object.result.0 in
      goes_on_left d (with_table e t) (with_table e t) f (sinking w f c.args.object.0)
      (sinks w f c.args.object.0 id c.object_in-object.ensures ∙ ap (λ (v : World). goes_on v [] f) (sym (sunk_world e t id c.sink.ensures)))
      refl (begins d (with_table e t) c.requires.first);
  quiet = search rules;
  counted =
      let d = c.args.definition.now in
      let e = c.args.engine.now in
      let f = first_frame c.args.engine.now in
      let t = c.sink.new.self in
      ((sunk_keeps d e t c.object_in-object.result.0 c.sink.ensures).at nothing c.requires.counted);
  room = search rules;
}
