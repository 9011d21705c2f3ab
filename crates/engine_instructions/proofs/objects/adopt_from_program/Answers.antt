use Rattle.std.proofs.Common.{ap, subst, sym, ◌∙◌, arith, rules}
use Rattle.std.specs.Prelude.{OnErr, is_some}
use Rattle.ui_machine.specs.Instructions.Objects.{adopting}
use Rattle.ui_machine.specs.State.Config.{World}
use Rattle.engine_world.specs.Counting.{KeepsCounts, nothing}
use Rattle.engine_world.specs.Quiet.{IsQuiet}
use Rattle.engine_world.specs.View.{world_of}
use Rattle.engine_instructions.proofs.Adopting.{adopt_no_child, adopt_no_parent}
use Rattle.engine_instructions.proofs.Pushed.{adopts_able, adopts_behind, none_as, unwritten, world_written}
use Rattle.engine_world.proofs.Registers.{on_ok, stops_left}
use Rattle.ui_machine.specs.declared.arm.Halt.TheVariants as halts
use Rattle.engine_world.proofs.Ableness.{no_arm, none_stops}
use Rattle.engine_world.specs.FirstPrograms.{first_frame, rest_of}
use Rattle.engine_instructions.proofs.objects.adopt_from_program.Goals as goal

pub object_in-parent-requires : goal.object_in-parent-requires
object_in-parent-requires c = record {
  first = c.requires.first;
  able =
      let d = c.args.definition.now in
      let e = c.args.engine.now in
      let w = world_of e.world in
      let f = first_frame c.args.engine.now in
      none_stops _ (λ arm none. no_arm _ arm c.requires.able
      (stops_left e.counted (rest_of d e) (adopting d w f c.args.to.0 c.args.parent.0 c.args.child.0) (halts.Stuck arm)
      (adopt_no_parent d w f c.args.to.0 c.args.parent.0 c.args.child.0 (halts.Stuck arm) none)));
}

pub object_in-child-requires : goal.object_in-child-requires
object_in-child-requires c = record {
  first = c.requires.first;
  able =
      let d = c.args.definition.now in
      let e = c.args.engine.now in
      let w = world_of e.world in
      let f = first_frame c.args.engine.now in
      none_stops _ (λ arm none. no_arm _ arm c.requires.able
      (stops_left e.counted (rest_of d e) (adopting d w f c.args.to.0 c.args.parent.0 c.args.child.0) (halts.Stuck arm)
      (adopt_no_child d w f c.args.to.0 c.args.parent.0 c.args.child.0 c.object_in-parent.result.0 c.object_in-parent.ensures (halts.Stuck arm) none)));
}

pub write_register-requires-clause-able : goal.write_register-requires-clause-able
write_register-requires-clause-able c =
    let d = c.args.definition.now in
    let e = c.args.engine.now in
    let f = first_frame c.args.engine.now in
    none_stops _ (λ arm stuck. no_arm _ arm c.requires.able
    (unwritten d e e f c.args.to.0 c.args.parent.0 c.args.child.0 c.object_in-parent.result.0 c.object_in-child.result.0 c.object_in-parent.ensures c.object_in-child.ensures
    c.is_none-is_free.result (none_as _ c.is_none-is_free.result (ap is_some (sym c.refusal.ensures) ∙ c.is_none-is_free.ensures)) (halts.Stuck arm) stuck))

pub join_objects-requires : goal.join_objects-requires
join_objects-requires c = record {
  able =
      let d = c.args.definition.now in
      let e = c.args.engine.now in
      let f = first_frame c.args.engine.now in
      adopts_able d e c.write_register.new.engine f c.args.to.0 c.args.parent.0 c.args.child.0 c.object_in-parent.result.0 c.object_in-child.result.0 c.object_in-parent.ensures c.object_in-child.ensures
      c.is_none-is_free.result (none_as _ c.is_none-is_free.result (ap is_some (sym c.refusal.ensures) ∙ c.is_none-is_free.ensures)) c.write_register.ensures.executes.step c.requires.able;
  counted = record { taken = nothing; counts = c.write_register.ensures.executes.counted; little = λ o. omega arith };
}

pub returns : goal.returns
returns c = record {
  step =
      let d = c.args.definition.now in
      let e = c.args.engine.now in
      let f = first_frame c.args.engine.now in
      adopts_behind d e c.write_register.new.engine f c.args.to.0 c.args.parent.0 c.args.child.0 c.object_in-parent.result.0 c.object_in-child.result.0 c.object_in-parent.ensures c.object_in-child.ensures
      c.is_none-is_free.result (none_as _ c.is_none-is_free.result (ap is_some (sym c.refusal.ensures) ∙ c.is_none-is_free.ensures)) c.write_register.ensures.executes.step
      c.join_objects.result c.join_objects.new.engine c.join_objects.ensures.joins c.join_objects.ensures.same c.join_objects.ensures.handlers;
  quiet =
      let d = c.args.definition.now in
      let e = c.args.engine.now in
      let f = first_frame c.args.engine.now in
      let mid = world_written d e c.write_register.new.engine f c.args.to.0 c.args.parent.0 c.args.child.0 c.object_in-parent.result.0 c.object_in-child.result.0 c.object_in-parent.ensures c.object_in-child.ensures
      c.is_none-is_free.result (none_as _ c.is_none-is_free.result (ap is_some (sym c.refusal.ensures) ∙ c.is_none-is_free.ensures)) c.write_register.ensures.executes.step in
      subst (λ (w : World). OnErr c.join_objects.result (IsQuiet w (world_of c.join_objects.new.engine.world))) mid c.join_objects.ensures.quiet;
  counted =
      on_ok c.join_objects.result
      (λ (k : KeepsCounts c.args.definition.now c.write_register.new.engine c.join_objects.new.engine). k.at nothing c.write_register.ensures.executes.counted) c.join_objects.ensures.counted;
  room = search rules;
}
