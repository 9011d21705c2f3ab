use Rattle.std.proofs.Common.{◌≡◌, ℕ, [], None, Option, cond, false, ap, sym, ◌∙◌, refl, rules}
use Rattle.ui_machine.specs.Instructions.Registers.{operand_in}
use Rattle.engine_world.specs.ClosingView.{closed_with, or_number}
use Rattle.engine_instructions.specs.ClosedPeers.{closed_in}
use Rattle.std.specs.Prelude.{OnOk, Result, Ok, Err}
use Rattle.std.specs.declared.alloc.AllocError.{AllocError}
use Rattle.ui_machine.specs.Instructions.Objects.{disposing}
use Rattle.ui_machine.specs.Rules.Sets.{is_disposed}
use Rattle.ui_machine.specs.State.Objects.{living}
use Rattle.engine_world.specs.Counting.{KeepsCounts, nothing}
use Rattle.engine_world.specs.View.{world_of}
use Rattle.engine_instructions.proofs.Disposing.{disposes_able, disposes_behind}
use Rattle.engine_instructions.proofs.ObjectSteps.{dispose_none, disposes_nothing, operand_lives}
use Rattle.engine_world.proofs.Registers.{on_ok, stops_left}
use Rattle.engine_instructions.proofs.Starting.{started_left}
use Rattle.engine_instructions.proofs.Whole.{whole_so}
use Rattle.ui_machine.specs.declared.arm.Halt.TheVariants as halts
use Rattle.engine_world.proofs.Ableness.{no_arm, none_stops}
use Rattle.engine_world.specs.FirstPrograms.{first_frame, rest_of}
use Rattle.engine_world.proofs.FirstPrograms.{begins}
use Rattle.engine_instructions.proofs.objects.run_dispose.Goals as goal

pub object_in-object-requires : goal.object_in-object-requires
object_in-object-requires c = record {
  first = c.requires.first;
  able =
      let d = c.args.definition.now in
      let e = c.args.engine.now in
      let w = world_of e.world in
      let f = first_frame c.args.engine.now in
      none_stops _ (λ arm none. no_arm _ arm c.requires.able
      (stops_left e.counted (rest_of d e) (disposing d w f c.args.object.0) (halts.Stuck arm) (dispose_none d w f c.args.object.0 (halts.Stuck arm) none)));
}

pub returns-then-is_disposed-clause-executes : goal.returns-then-is_disposed-clause-executes
returns-then-is_disposed-clause-executes c = record {
  step =
      let d = c.args.definition.now in
      let e = c.args.engine.now in
      let w = world_of e.world in
      let f = first_frame c.args.engine.now in
      let id = c.object_in-object.result.0 in
      let so = sym c.is_disposed.ensures ∙ c.if-is_disposed.true in
      whole_so d e _
      (started_left e.counted (rest_of d e) (disposing d w f c.args.object.0) w [] f _ _ _
      (disposes_nothing d w f c.args.object.0 id c.object_in-object.ensures so)
      refl (begins d e c.requires.first) refl);
  quiet = search rules;
  counted =
      let d = c.args.definition.now in
      c.requires.counted;
  room = search rules;
}

pub dispose-requires : goal.dispose-requires
dispose-requires c =
    let d = c.args.definition.now in
    let e = c.args.engine.now in
    let id = c.object_in-object.result.0 in
    let first : is_disposed (living e.world.table.objects id) ≡ false =
    sym c.is_disposed.ensures ∙ c.if-is_disposed.false in
    record {
      able = disposes_able d e e e (first_frame c.args.engine.now) c.args.object.0 id c.object_in-object.ensures first refl (begins d e c.requires.first) c.requires.able;
      live = (operand_lives (world_of e.world) (first_frame c.args.engine.now) c.args.object.0 id c.object_in-object.ensures);
      knows = c.requires.counted.knows;
    }

pub returns-clause-executes : goal.returns-clause-executes
returns-clause-executes c = record {
  step =
      let d = c.args.definition.now in
      let e = c.args.engine.now in
      let f = first_frame c.args.engine.now in
      let id = c.object_in-object.result.0 in
      let first : is_disposed (living e.world.table.objects id) ≡ false =
      sym c.is_disposed.ensures ∙ c.if-is_disposed.false in
      disposes_behind d e e c.dispose.new.engine f c.args.object.0 id c.object_in-object.ensures first refl (begins d e c.requires.first)
      c.dispose.result c.dispose.ensures.step c.dispose.ensures.agenda c.dispose.ensures.same;
  quiet = search rules;
  counted =
      on_ok c.dispose.result
      (λ (k : KeepsCounts c.args.definition.now c.args.engine.now c.dispose.new.engine). k.at nothing c.requires.counted) c.dispose.ensures.counted;
  room = search rules;
}

pub returns-then-is_disposed-clause-closing : goal.returns-then-is_disposed-clause-closing
returns-then-is_disposed-clause-closing c =
    let w = world_of c.args.engine.now.world in
    let f = first_frame c.args.engine.now in
    let id = c.object_in-object.result.0 in
    let so = sym c.is_disposed.ensures ∙ c.if-is_disposed.true in
    sym (ap (λ (k : Option ℕ). or_number k c.args.engine.now.closing)
    (ap (closed_in w) c.object_in-object.ensures ∙ ap (λ b. cond b None (closed_with w id)) so))

pub returns-clause-closing : goal.returns-clause-closing
returns-clause-closing c = on c.dispose.result c.dispose.ensures.closing
  where
    on : (result : Result (Unit {0}) AllocError) → OnOk result (c.dispose.new.engine.closing ≡ or_number (closed_with (world_of c.args.engine.now.world) c.object_in-object.result.0) c.args.engine.now.closing)
        → OnOk result (c.dispose.new.engine.closing ≡ or_number (closed_in (world_of c.args.engine.now.world) (operand_in (world_of c.args.engine.now.world) (first_frame c.args.engine.now) c.args.object.0)) c.args.engine.now.closing)
    on (Ok x) is =
        let w = world_of c.args.engine.now.world in
        let id = c.object_in-object.result.0 in
        let so = sym c.is_disposed.ensures ∙ c.if-is_disposed.false in
        is
        ∙ sym (ap (λ (k : Option ℕ). or_number k c.args.engine.now.closing) (ap (closed_in w) c.object_in-object.ensures ∙ ap (λ b. cond b None (closed_with w id)) so))
    on (Err halt) is = tt
