use Rattle.std.proofs.Common.{◌∙◌, arith, rules}
use Rattle.engine_world.specs.View.{world_of}
use Rattle.engine_world.proofs.Ableness.{instructed}
use Rattle.engine_world.proofs.Left.{same_agenda}
use Rattle.engine_world.proofs.Registers.{going_left}
use Rattle.engine_instructions.proofs.SourceSteps.{remove_known, removes}
use Rattle.engine_world.specs.FirstPrograms.{first_frame, rest_of}
use Rattle.engine_world.proofs.FirstPrograms.{begins}
use Rattle.engine_instructions.proofs.sources.remove_from_program.Goals as goal

pub remove_sources-requires : goal.remove_sources-requires
remove_sources-requires c = record { held = record { at = λ o. omega (arith, c.requires.counted.exact o) } }

pub program_named-number-requires : goal.program_named-number-requires
program_named-number-requires c =
    let d = c.args.definition.now in
    let e = c.args.engine.now in
    record { able = remove_known d (world_of e.world) (first_frame c.args.engine.now) c.args.program.now (instructed e.counted (rest_of d e) _ c.requires.able); link = c.requires.link }

pub returns : goal.returns
returns c = record {
  step =
      let d = c.args.definition.now in
      let e = c.args.engine.now in
      let f = first_frame c.args.engine.now in
      let m = c.remove_sources.new.engine in
      going_left e.counted (rest_of d e) _ _ f _ _ _
      (removes d (world_of e.world) f c.args.program.now c.program_named-number.result c.program_named-number.ensures)
      c.remove_sources.ensures.world
      (same_agenda d e m c.remove_sources.ensures.same.0 c.remove_sources.ensures.handlers ∙ begins d e c.requires.first)
      c.remove_sources.ensures.same.1;
  quiet = search rules;
  counted =
      let d = c.args.definition.now in
      ((c.remove_sources.ensures.counted d).at _ c.requires.counted);
  room = search rules;
}
