use Rattle.std.proofs.Common.{◌∙◌, rules}
use Rattle.ui_machine.specs.Rules.Connections.{with_handlers_on, unblocked}
use Rattle.engine_instructions.specs.HandlersView.{matched_of}
use Rattle.engine_world.specs.View.{world_of}
use Rattle.engine_instructions.proofs.Connections.{matched_able, matched_goes}
use Rattle.engine_world.proofs.Registers.{going_left}
use Rattle.engine_world.specs.FirstPrograms.{first_frame, rest_of}
use Rattle.engine_world.proofs.FirstPrograms.{begins}
use Rattle.engine_instructions.proofs.matched_handlers.unblock_matched.Goals as goal

pub matched_in-matched-requires : goal.matched_in-matched-requires
matched_in-matched-requires c =
    let d = c.args.definition.now in
    let e = c.args.engine.now in
    record { first = c.requires.first; able = matched_able d (world_of e.world) (first_frame c.args.engine.now) c.args.object.0 c.args.program.now (with_handlers_on unblocked) e.counted (rest_of d e) c.requires.able; link = c.requires.link }

pub returns : goal.returns
returns c = record {
  step =
      let d = c.args.definition.now in
      let e = c.args.engine.now in
      let f = first_frame c.args.engine.now in
      let m = c.unblock.new.engine in
      going_left e.counted (rest_of d e) _ _ f _ _ _
      (matched_goes d (world_of e.world) f c.args.object.0 c.args.program.now (with_handlers_on unblocked) (matched_of c.matched_in-matched.result) c.matched_in-matched.ensures)
      c.unblock.ensures.world
      (c.unblock.ensures.agenda ∙ begins d e c.requires.first)
      c.unblock.ensures.same;
  quiet = search rules;
  counted =
      let d = c.args.definition.now in
      let e = c.args.engine.now in
      (c.unblock.ensures.counted.at _ c.requires.counted);
  room = search rules;
}
