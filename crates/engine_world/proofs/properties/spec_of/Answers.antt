use Rattle.std.proofs.Common.{sym, ap, Bor, option_map, ◌∙◌}
use Rattle.param_specs.specs.declared.spec.Spec.{Spec}
use Rattle.param_specs.specs.View.{spec_view}
use Rattle.engine_world.proofs.Ableness.{no_arm}
use Rattle.engine_world.proofs.LivingObjects.{lives_where}
use Rattle.engine_world.proofs.SpecAt.{no_class, no_spec, some_spec}
use Rattle.engine_world.proofs.properties.spec_of.Goals as goal

pub class_of-class-requires : goal.class_of-class-requires
class_of-class-requires c = record {
  live =
      let os = c.args.engine.now.world.table.objects in
      lives_where os c.args.object.0 _
      (λ arm is. no_arm _ arm c.requires.able (no_class c.args.definition.now os c.args.object.0 c.args.slot arm is));
}

pub unreachable-requires : goal.unreachable-requires
unreachable-requires c =
    no_arm _ _ c.requires.able
    (no_spec c.args.definition.now c.args.engine.now.world.table.objects c.args.object.0 c.args.slot _ c.class_of-class.ensures
    (sym c.spec.ensures ∙ ap (option_map (λ (s : Bor Spec). spec_view s.now)) c.in_default.is))

pub returns-clause-spec : goal.returns-clause-spec
returns-clause-spec c =
    some_spec c.args.definition.now c.args.engine.now.world.table.objects c.args.object.0 c.args.slot _ _ c.class_of-class.ensures
    (sym c.spec.ensures ∙ ap (option_map (λ (s : Bor Spec). spec_view s.now)) c.in-Some.is)

pub returns-clause-plain : goal.returns-clause-plain
returns-clause-plain c =
    c.types-types.ensures.basic.plain c.class_of-class.result c.args.slot _ (sym c.spec.ensures ∙ ap (option_map (λ (s : Bor Spec). spec_view s.now)) c.in-Some.is)
