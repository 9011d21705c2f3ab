use Rattle.engine_world.specs.View.{world_of}
use Rattle.engine_world.proofs.Ableness.{able_as, no_arm}
use Rattle.engine_world.proofs.Details.{detail_heard, detail_unheard}
use Rattle.engine_world.proofs.LivingObjects.{lives_where}
use Rattle.engine_world.proofs.arguments.shared_detail_in.Goals as goal

pub class_of-class-requires : goal.class_of-class-requires
class_of-class-requires c = record {
  live =
      let w = world_of c.args.engine.now.world in
      lives_where w.objects c.args.object.0 _
      (λ arm is. no_arm _ arm c.requires.able (detail_unheard c.args.definition.now w c.args.object.0 c.args.signal _ arm is));
}

pub shared_detail_for-requires : goal.shared_detail_for-requires
shared_detail_for-requires c = record {
  able = able_as (detail_heard c.args.definition.now (world_of c.args.engine.now.world) c.args.object.0 c.args.signal _ c.class_of-class.result c.class_of-class.ensures) c.requires.able;
}

pub returns : goal.returns
returns c = rw (detail_heard c.args.definition.now (world_of c.args.engine.now.world) c.args.object.0 c.args.signal _ c.class_of-class.result c.class_of-class.ensures) c.shared_detail_for.ensures
