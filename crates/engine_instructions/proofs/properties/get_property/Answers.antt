use Rattle.std.proofs.Common.{Some, ap, rules}
use Rattle.ui_machine.specs.Instructions.{in_front}
use Rattle.ui_machine.specs.State.Config.{Started}
use Rattle.ui_machine.specs.Outcome.{Answer}
use Rattle.ui_machine.specs.Steps.{left}
use Rattle.g_values.specs.View.{value_view}
use Rattle.engine_world.specs.View.{world_of}
use Rattle.engine_world.proofs.Ableness.{able_as, instructed}
use Rattle.engine_world.proofs.Named.{names_as, written_names}
use Rattle.engine_instructions.proofs.PropertySteps.{get_operand, get_readable, gets}
use Rattle.engine_world.specs.FirstPrograms.{first_frame, rest_of}
use Rattle.engine_instructions.proofs.properties.get_property.Goals as goal

pub object_in-object-requires : goal.object_in-object-requires
object_in-object-requires c = record {
  first = c.requires.first;
  able =
      let e = c.args.engine.now in
      get_operand c.args.definition.now (world_of e.world) (first_frame c.args.engine.now) c.args.to.0 c.args.object.0 c.args.property.now (instructed e.counted (rest_of c.args.definition.now e) _ c.requires.able);
}

pub readable_value-requires : goal.readable_value-requires
readable_value-requires c = record {
  able =
      let e = c.args.engine.now in
      get_readable c.args.definition.now (world_of e.world) (first_frame c.args.engine.now) c.args.to.0 c.args.object.0 c.args.property.now c.object_in-object.result.0 c.object_in-object.ensures
      (instructed e.counted (rest_of c.args.definition.now e) _ c.requires.able);
  link = c.requires.link;
}

pub write_register-requires-clause-able : goal.write_register-requires-clause-able
write_register-requires-clause-able c =
    let d = c.args.definition.now in
    let e = c.args.engine.now in
    able_as
    (ap (λ (a : Answer Started). left e.counted (in_front (rest_of d e) a))
    (gets d (world_of e.world) (first_frame c.args.engine.now) c.args.to.0 c.args.object.0 c.args.property.now c.object_in-object.result.0 c.object_in-object.ensures (value_view c.in_ok-value.value) c.in_ok-value.ensures))
    c.requires.able

pub write_register-requires-clause-names : goal.write_register-requires-clause-names
write_register-requires-clause-names c =
    let d = c.args.definition.now in
    let e = c.args.engine.now in
    let w = world_of e.world in
    let f = first_frame c.args.engine.now in
    let v = value_view c.in_ok-value.value in
    let there = ap (λ (a : Answer Started). left e.counted (in_front (rest_of d e) a))
    (gets d w f c.args.to.0 c.args.object.0 c.args.property.now c.object_in-object.result.0 c.object_in-object.ensures v c.in_ok-value.ensures) in
    written_names e.counted (rest_of d e) w c.args.to.0 (Some v) f (able_as there c.requires.able) (names_as there c.requires.names)

pub returns : goal.returns
returns c = record {
  step =
      let d = c.args.definition.now in
      let w = world_of c.args.engine.now.world in
      let f = first_frame c.args.engine.now in
      rw (gets d w f c.args.to.0 c.args.object.0 c.args.property.now c.object_in-object.result.0 c.object_in-object.ensures (value_view c.in_ok-value.value) c.in_ok-value.ensures) c.write_register.ensures.executes.step;
  quiet = search rules;
  counted = search rules;
  room = search rules;
}
