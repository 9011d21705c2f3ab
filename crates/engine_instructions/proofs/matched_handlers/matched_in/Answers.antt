use Rattle.engine_world.specs.View.{world_of}
use Rattle.engine_instructions.proofs.Connections.{matched_so, named_able}
use Rattle.engine_world.specs.FirstPrograms.{first_frame}
use Rattle.engine_instructions.proofs.matched_handlers.matched_in.Goals as goal

pub program_named-program-requires : goal.program_named-program-requires
program_named-program-requires c = record {
  able = named_able c.args.definition.now (world_of c.args.engine.now.world) (first_frame c.args.engine.now) c.args.object.0 c.args.program.now c.requires.able c.object_in-object.result.0 c.object_in-object.ensures;
  link = c.requires.link;
}

pub returns : goal.returns
returns c =
    matched_so c.args.definition.now (world_of c.args.engine.now.world) (first_frame c.args.engine.now) c.args.object.0 c.args.program.now c.object_in-object.result.0 c.program_named-program.result
    c.object_in-object.ensures c.program_named-program.ensures
