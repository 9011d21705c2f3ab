use Rattle.std.proofs.Common.{◌≡◌, Some, ap, option_map, sym, ◌∙◌, rules}
use Rattle.ui_machine.specs.declared.ids.Place.{Place}
use Rattle.ui_machine.specs.Definition.Lookups.{place_of}
use Rattle.ui_machine.specs.Definition.Values as values
use Rattle.ui_machine.specs.Definition.Values.{Value}
use Rattle.ui_machine.specs.Instructions.Objects.{look_up_object}
use Rattle.ui_machine.specs.Instructions.Registers.{gives}
use Rattle.g_values.specs.View.{value_view}
use Rattle.engine_world.specs.View.{world_of}
use Rattle.engine_instructions.proofs.Jumping.{stuck_left}
use Rattle.engine_instructions.proofs.ObjectSteps.{name_unknown, names_able}
use Rattle.ui_machine.specs.Instructions.{in_front}
use Rattle.ui_machine.specs.Outcome.{Answer}
use Rattle.ui_machine.specs.State.Config.{Started}
use Rattle.ui_machine.specs.Steps.{left}
use Rattle.engine_world.proofs.Ableness.{able_as, instructed, no_arm}
use Rattle.engine_world.proofs.Named.{names_as, written_names}
use Rattle.engine_world.specs.FirstPrograms.{first_frame, rest_of}
use Rattle.engine_instructions.proofs.objects.look_up_object.Goals as goal

pub unreachable-requires : goal.unreachable-requires
unreachable-requires c =
    let d = c.args.definition.now in
    let e = c.args.engine.now in
    let w = world_of e.world in
    let f = first_frame c.args.engine.now in
    no_arm _ _ c.requires.able
    (stuck_left d e (look_up_object d w f c.args.to.0 c.args.id.now) _ (name_unknown d w f c.args.to.0 c.args.id.now (sym c.requires.link ∙ ap (option_map (λ (p : Place). p.0)) (sym c.place.ensures ∙ c.in_default.is))))

pub write_register-requires-clause-able : goal.write_register-requires-clause-able
write_register-requires-clause-able c =
    let d = c.args.definition.now in
    let e = c.args.engine.now in
    let w = world_of e.world in
    let f = first_frame c.args.engine.now in
    let found : place_of d c.args.id.now ≡ Some c.in-Some.place.0 = sym c.requires.link ∙ ap (option_map (λ (p : Place). p.0)) (sym c.place.ensures ∙ c.in-Some.is) in
    let held = c.object_or_null-object.ensures ∙ ap values.object c.built.ensures in
    able_as
    (ap (λ (a : Answer Started). left e.counted (in_front (rest_of d e) a))
    (names_able d w f c.args.to.0 c.args.id.now c.in-Some.place.0 found (instructed e.counted (rest_of d e) _ c.requires.able) ∙ ap (λ (v : Value). gives w c.args.to.0 v f) (sym held)))
    c.requires.able

pub write_register-requires-clause-names : goal.write_register-requires-clause-names
write_register-requires-clause-names c =
    let d = c.args.definition.now in
    let e = c.args.engine.now in
    let w = world_of e.world in
    let f = first_frame c.args.engine.now in
    let v = value_view c.object_or_null-object.result in
    let found : place_of d c.args.id.now ≡ Some c.in-Some.place.0 = sym c.requires.link ∙ ap (option_map (λ (p : Place). p.0)) (sym c.place.ensures ∙ c.in-Some.is) in
    let held = c.object_or_null-object.ensures ∙ ap values.object c.built.ensures in
    let there = ap (λ (a : Answer Started). left e.counted (in_front (rest_of d e) a))
    (names_able d w f c.args.to.0 c.args.id.now c.in-Some.place.0 found (instructed e.counted (rest_of d e) _ c.requires.able) ∙ ap (λ (v : Value). gives w c.args.to.0 v f) (sym held)) in
    written_names e.counted (rest_of d e) w c.args.to.0 (Some v) f (able_as there c.requires.able) (names_as there c.requires.names)

pub returns : goal.returns
returns c = record {
  step =
      let d = c.args.definition.now in
      let e = c.args.engine.now in
      let w = world_of e.world in
      let f = first_frame c.args.engine.now in
      let found : place_of d c.args.id.now ≡ Some c.in-Some.place.0 = sym c.requires.link ∙ ap (option_map (λ (p : Place). p.0)) (sym c.place.ensures ∙ c.in-Some.is) in
      let held = c.object_or_null-object.ensures ∙ ap values.object c.built.ensures in
      let named = names_able d w f c.args.to.0 c.args.id.now c.in-Some.place.0 found (instructed e.counted (rest_of d e) _ c.requires.able)
      ∙ ap (λ (v : Value). gives w c.args.to.0 v f) (sym held) in
      rw named c.write_register.ensures.executes.step;
  quiet = search rules;
  counted = search rules;
  room = search rules;
}
