use Rattle.std.proofs.Common.{refl, rules}
use Rattle.engine_world.specs.View.{world_of}
use Rattle.engine_world.proofs.Left.{left_kept}
use Rattle.engine_instructions.proofs.StoppedEmissions.{below_counts, below_stopped}
use Rattle.engine_instructions.proofs.stops.stop_from_program.Goals as goal

pub returns : goal.returns
returns c = record {
  step =
      let d = c.args.definition.now in
      let e = c.args.engine.now in
      left_kept e.counted _ (world_of e.world) _ _ _ _ refl refl
      (below_stopped d e.world.handlers.handlers e.stack c.stop_below.new.self e.world.handlers.last c.stop_below.ensures.stops c.requires.first c.requires.counted.connects.begun) refl;
  quiet = search rules;
  counted =
      let d = c.args.definition.now in
      below_counts d c.args.engine.now c.stop_below.new.self c.stop_below.ensures.stops c.requires.first c.requires.counted;
  room = search rules;
}
