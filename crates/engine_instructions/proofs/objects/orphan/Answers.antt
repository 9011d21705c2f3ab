use Rattle.std.proofs.Common.{[], ◌∙◌, rules}
use Rattle.ui_machine.specs.Instructions.Objects.{orphaning}
use Rattle.ui_machine.specs.Rules.Children.{orphaned}
use Rattle.ui_machine.specs.State.Objects.{living}
use Rattle.instance_tables.specs.Family.{parent_in}
use Rattle.engine_world.specs.Counting.{nothing}
use Rattle.engine_world.specs.View.{world_of}
use Rattle.engine_world.proofs.Left.{same_agenda}
use Rattle.engine_instructions.proofs.ObjectSteps.{orphan_none, orphans}
use Rattle.engine_world.proofs.Registers.{stops_left}
use Rattle.engine_instructions.proofs.Starting.{started_left}
use Rattle.ui_machine.specs.declared.arm.Halt.TheVariants as halts
use Rattle.engine_world.proofs.Ableness.{no_arm, none_stops}
use Rattle.engine_world.specs.FirstPrograms.{first_frame, rest_of}
use Rattle.engine_world.proofs.FirstPrograms.{begins}
use Rattle.engine_instructions.proofs.objects.orphan.Goals as goal

pub object_in-object-requires : goal.object_in-object-requires
object_in-object-requires c = record {
  first = c.requires.first;
  able =
      let d = c.args.definition.now in
      let e = c.args.engine.now in
      let w = world_of e.world in
      let f = first_frame c.args.engine.now in
      none_stops _ (λ arm none. no_arm _ arm c.requires.able
      (stops_left e.counted (rest_of d e) (orphaning d w f c.args.object.0) (halts.Stuck arm) (orphan_none d w f c.args.object.0 (halts.Stuck arm) none)));
}

pub returns : goal.returns
returns c = record {
  step =
      let d = c.args.definition.now in
      let e = c.args.engine.now in
      let w = world_of e.world in
      let f = first_frame c.args.engine.now in
      let id = c.object_in-object.result.0 in
      started_left e.counted (rest_of d e) (orphaning d w f c.args.object.0) (orphaned d w id (parent_in (living w.objects id))) [] f _ _ _
      (orphans d w f c.args.object.0 id c.object_in-object.ensures)
      c.in_ok-leave.ensures.ok
      (same_agenda d e c.leave.new.engine c.leave.ensures.same.0 c.leave.ensures.handlers ∙ begins d e c.requires.first)
      (c.leave.ensures.same.1);
  quiet = search rules;
  counted =
      let d = c.args.definition.now in
      c.in_ok-leave.ensures.counted.at nothing
      c.requires.counted;
  room = search rules;
}
