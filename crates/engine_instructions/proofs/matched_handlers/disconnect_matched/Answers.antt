use Rattle.std.proofs.Common.{List, map, ap, ◌∙◌, rules}
use Rattle.ui_machine.specs.Rules.Connections.{disconnected}
use Rattle.ui_machine.specs.State.Config.{World}
use Rattle.ui_machine.specs.State.Tasks.{Task}
use Rattle.machine_laws.specs.GoneLaws.{pruned}
use Rattle.engine_world.specs.Standing.{gone_handlers}
use Rattle.engine_instructions.specs.HandlersView.{matched_of}
use Rattle.engine_world.specs.TaskView.{agenda_of}
use Rattle.engine_world.specs.View.{world_of}
use Rattle.engine_instructions.proofs.Connections.{matched_able, matched_goes, pruned_left}
use Rattle.engine_world.specs.FirstPrograms.{first_frame, rest_of}
use Rattle.engine_world.proofs.FirstPrograms.{begins}
use Rattle.engine_instructions.proofs.matched_handlers.disconnect_matched.Goals as goal

pub matched_in-matched-requires : goal.matched_in-matched-requires
matched_in-matched-requires c =
    let d = c.args.definition.now in
    let e = c.args.engine.now in
    record { first = c.requires.first; able = matched_able d (world_of e.world) (first_frame c.args.engine.now) c.args.object.0 c.args.program.now disconnected e.counted (rest_of d e) c.requires.able; link = c.requires.link }

pub returns : goal.returns
returns c = record {
  step =
      let d = c.args.definition.now in
      let e = c.args.engine.now in
      let f = first_frame c.args.engine.now in
      let w = disconnected (world_of e.world) c.matched_in-matched.result.object.0 c.matched_in-matched.result.program in
      pruned_left e.counted (rest_of d e) _ w f _ _ _
      (matched_goes d (world_of e.world) f c.args.object.0 c.args.program.now disconnected (matched_of c.matched_in-matched.result) c.matched_in-matched.ensures)
      c.disconnect.ensures.world
      (c.disconnect.ensures.agenda ∙ ap (λ (v : World). map (pruned (gone_handlers v)) (agenda_of d e)) c.disconnect.ensures.world ∙ ap (λ (ts : List Task). map (pruned (gone_handlers w)) ts) (begins d e c.requires.first))
      c.disconnect.ensures.same;
  quiet = search rules;
  counted =
      let d = c.args.definition.now in
      (c.disconnect.ensures.counted.at _ c.requires.counted);
  room = search rules;
}
