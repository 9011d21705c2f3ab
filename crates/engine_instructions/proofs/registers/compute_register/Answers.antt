use Rattle.std.proofs.Common.{◌≡◌, Some, ap, subst, sym, rules}
use Rattle.ui_machine.specs.declared.arm.Halt.TheVariants as halts
use Rattle.ui_machine.specs.Instructions.{in_front, instruction_step}
use Rattle.ui_machine.specs.Outcome.{Answer}
use Rattle.ui_machine.specs.State.Config.{Left}
use Rattle.ui_machine.specs.Steps.{left}
use Rattle.g_values.specs.View.{value_view}
use Rattle.bytecode.specs.Computing.{instruction_of}
use Rattle.frames.specs.Computing.{writes}
use Rattle.frames.proofs.FromRegisters.{reads}
use Rattle.bytecode.specs.declared.computations.Computed.{Computed}
use Rattle.engine_world.specs.View.{world_of}
use Rattle.engine_world.proofs.Ableness.{able_as, no_arm}
use Rattle.engine_world.proofs.Named.{names_as, written_names}
use Rattle.engine_instructions.proofs.Programs.{left_stops}
use Rattle.engine_world.specs.FirstPrograms.{first_frame, rest_of}
use Rattle.engine_instructions.proofs.registers.compute_register.Goals as goal

pub compute-requires-clause-reads : goal.compute-requires-clause-reads
compute-requires-clause-reads c =
    let d = c.args.definition.now in
    let e = c.args.engine.now in
    let reads = reads d (world_of e.world) (rest_of d e) (first_frame c.args.engine.now) c.args.to.0 c.args.computation.now
    (λ arm is. no_arm _ arm c.requires.able (left_stops e.counted _ (halts.Stuck arm) is)) in
    rw (c.types-types.ensures.types, c.first_registers-registers.ensures) reads

pub write_register-requires-clause-names : goal.write_register-requires-clause-names
write_register-requires-clause-names c =
    let d = c.args.definition.now in
    let e = c.args.engine.now in
    let w = world_of e.world in
    let f = first_frame c.args.engine.now in
    let rest = rest_of d e in
    let to = c.args.to.0 in
    let comes = c.in_ok-computed.ensures.computed d w rest f to (sym c.types-types.ensures.types) (sym c.first_registers-registers.ensures) in
    let value = subst (λ (x : Computed). instruction_step d w rest f (instruction_of c.args.computation.now to) ≡ in_front rest (writes d w f to x)) c.in-Value.is comes in
    let there = ap (λ (a : Answer Left). left e.counted a) value in
    written_names e.counted rest w to (Some (value_view c.in-Value.value)) f (able_as there c.requires.able) (names_as there c.requires.names)

pub returns-in_ok-write_null_and_say_limit-in-TooLong : goal.returns-in_ok-write_null_and_say_limit-in-TooLong
returns-in_ok-write_null_and_say_limit-in-TooLong c = record {
  step =
      let d = c.args.definition.now in
      let e = c.args.engine.now in
      let w = world_of e.world in
      let f = first_frame c.args.engine.now in
      let rest = rest_of d e in
      let comes = c.in_ok-computed.ensures.computed d w rest f c.args.to.0 (sym c.types-types.ensures.types) (sym c.first_registers-registers.ensures) in
      let long = subst (λ (x : Computed). instruction_step d w rest f (instruction_of c.args.computation.now c.args.to.0) ≡ in_front rest (writes d w f c.args.to.0 x)) c.in-TooLong.is comes in
      rw long c.in_ok-write_null_and_say_limit-in-TooLong.ensures.step;
  quiet = search rules;
  counted = search rules;
  room = search rules;
}
