use Rattle.std.proofs.Common.{Bool, None, Some, true, false, ap, sym, ◌∙◌, rules}
use Rattle.ui_machine.specs.Instructions.{in_front}
use Rattle.ui_machine.specs.Outcome.{Answer}
use Rattle.ui_machine.specs.Seq.{read}
use Rattle.ui_machine.specs.State.Config.{Started}
use Rattle.ui_machine.specs.Steps.{left}
use Rattle.frames.specs.Computing.{of_one, truth_of}
use Rattle.engine_world.specs.View.{world_of}
use Rattle.engine_instructions.proofs.Jumping.{branches, no_truth, stuck_left}
use Rattle.engine_world.proofs.Ableness.{able_as, no_arm}
use Rattle.engine_world.specs.FirstPrograms.{first_frame, rest_of}
use Rattle.ui_machine.specs.State.Tasks.{Registers}
use Rattle.engine_instructions.proofs.jumps.branch.Goals as goal

pub unreachable-requires : goal.unreachable-requires
unreachable-requires c =
    let d = c.args.definition.now in
    let e = c.args.engine.now in
    let none = ap (λ (rs : Registers). of_one truth_of (read None rs c.args.on.0)) (sym c.first_registers.ensures) ∙ sym c.in_default.ensures in
    no_arm _ _ c.requires.able (stuck_left d e _ _ (no_truth d (world_of e.world) (first_frame c.args.engine.now) c.args.on.0 c.args.then_to.0 c.args.else_to.0 none))

pub jump-requires-clause-able : goal.jump-requires-clause-able
jump-requires-clause-able c =
    let d = c.args.definition.now in
    let e = c.args.engine.now in
    let some = ap (λ (rs : Registers). of_one truth_of (read None rs c.args.on.0)) (sym c.first_registers.ensures) ∙ sym c.in-Some.ensures ∙ ap (λ (b : Bool). Some b) c.if-truth.true in
    able_as (ap (λ (a : Answer Started). left e.counted (in_front (rest_of d e) a)) (branches d (world_of e.world) (first_frame c.args.engine.now) c.args.on.0 c.args.then_to.0 c.args.else_to.0 true some)) c.requires.able

pub jump-requires-2-clause-able : goal.jump-requires-2-clause-able
jump-requires-2-clause-able c =
    let d = c.args.definition.now in
    let e = c.args.engine.now in
    let some = ap (λ (rs : Registers). of_one truth_of (read None rs c.args.on.0)) (sym c.first_registers.ensures) ∙ sym c.in-Some.ensures ∙ ap (λ (b : Bool). Some b) c.if-truth.false in
    able_as (ap (λ (a : Answer Started). left e.counted (in_front (rest_of d e) a)) (branches d (world_of e.world) (first_frame c.args.engine.now) c.args.on.0 c.args.then_to.0 c.args.else_to.0 false some)) c.requires.able

pub returns-then-truth : goal.returns-then-truth
returns-then-truth c = record {
  step =
      let d = c.args.definition.now in
      let e = c.args.engine.now in
      let some = ap (λ (rs : Registers). of_one truth_of (read None rs c.args.on.0)) (sym c.first_registers.ensures) ∙ sym c.in-Some.ensures ∙ ap (λ (b : Bool). Some b) c.if-truth.true in
      ap (λ (a : Answer Started). left e.counted (in_front (rest_of d e) a)) (branches d (world_of e.world) (first_frame c.args.engine.now) c.args.on.0 c.args.then_to.0 c.args.else_to.0 true some) ∙ c.jump.ensures.step;
  quiet = search rules;
  counted = search rules;
  room = search rules;
}

pub returns : goal.returns
returns c = record {
  step =
      let d = c.args.definition.now in
      let e = c.args.engine.now in
      let some = ap (λ (rs : Registers). of_one truth_of (read None rs c.args.on.0)) (sym c.first_registers.ensures) ∙ sym c.in-Some.ensures ∙ ap (λ (b : Bool). Some b) c.if-truth.false in
      ap (λ (a : Answer Started). left e.counted (in_front (rest_of d e) a)) (branches d (world_of e.world) (first_frame c.args.engine.now) c.args.on.0 c.args.then_to.0 c.args.else_to.0 false some) ∙ c.jump-2.ensures.step;
  quiet = search rules;
  counted = search rules;
  room = search rules;
}
