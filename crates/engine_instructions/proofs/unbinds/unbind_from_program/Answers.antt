use Rattle.std.proofs.Common.{◌∙◌, rules}
use Rattle.engine_world.specs.View.{world_of}
use Rattle.engine_world.proofs.Ableness.{instructed}
use Rattle.engine_world.proofs.Left.{same_agenda}
use Rattle.engine_world.proofs.Registers.{going_left}
use Rattle.engine_instructions.proofs.Unbinding.{unbinds}
use Rattle.engine_world.specs.FirstPrograms.{first_frame, rest_of}
use Rattle.engine_world.proofs.FirstPrograms.{begins}
use Rattle.engine_instructions.proofs.unbinds.unbind_from_program.Goals as goal

pub returns : goal.returns
returns c = record {
  step =
      let d = c.args.definition.now in
      let e = c.args.engine.now in
      let f = first_frame c.args.engine.now in
      let m = c.unbind.new.engine in
      going_left e.counted (rest_of d e) _ _ f _ _ _
      (unbinds d (world_of e.world) f c.args.name.now (instructed e.counted (rest_of d e) _ c.requires.able))
      c.unbind.ensures.world
      (same_agenda d e m c.unbind.ensures.same.0 c.unbind.ensures.handlers ∙ begins d e c.requires.first)
      c.unbind.ensures.same.1;
  quiet = search rules;
  counted =
      let d = c.args.definition.now in
      ((c.unbind.ensures.counted d).at _ c.requires.counted);
  room = search rules;
}
