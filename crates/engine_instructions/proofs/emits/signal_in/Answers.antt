use Rattle.std.proofs.Common.{None, Some, sym, ap, ◌∙◌}
use Rattle.name_tables.specs.Names.{number_by}
use Rattle.engine_world.specs.View.{world_of}
use Rattle.engine_world.proofs.Ableness.{no_arm}
use Rattle.engine_world.proofs.LivingObjects.{lives_where}
use Rattle.engine_instructions.proofs.Calling.{no_class, signal_is}
use Rattle.engine_instructions.proofs.emits.signal_in.Goals as goal

pub class_of-class-requires : goal.class_of-class-requires
class_of-class-requires c = record {
  live =
      let w = world_of c.args.engine.now.world in
      lives_where w.objects c.args.object.0 _ (λ arm is. no_arm _ arm c.requires.able (no_class c.args.definition.now w c.args.object.0 c.args.name.now arm is));
}

pub unreachable-requires : goal.unreachable-requires
unreachable-requires c =
    no_arm _ _ c.requires.able
    (signal_is c.args.definition.now (world_of c.args.engine.now.world) c.args.object.0 c.args.name.now c.class_of-class.result None c.class_of-class.ensures (sym (c.requires.link c.class_of-class.result) ∙ ap (number_by c.args.engine.now.links.signals c.class_of-class.result) (sym c.signal.ensures) ∙ sym c.signal-2.ensures ∙ c.in_default.is))

pub returns : goal.returns
returns c =
    signal_is c.args.definition.now (world_of c.args.engine.now.world) c.args.object.0 c.args.name.now c.class_of-class.result (Some c.in-Some.number) c.class_of-class.ensures (sym (c.requires.link c.class_of-class.result) ∙ ap (number_by c.args.engine.now.links.signals c.class_of-class.result) (sym c.signal.ensures) ∙ sym c.signal-2.ensures ∙ c.in-Some.is)
