use Rattle.std.proofs.Common.{◌-◌, ◌≤◌, vec_capacity}
use Rattle.ui_machine.specs.Steps.{most_steps}
use Rattle.ui_machine.specs.Prefix.{IsPrefix}
use Rattle.native_peers.specs.Seen.{SameRelations}
use Rattle.engine_world.specs.Counting.{Counts, nothing}
use Rattle.engine_world.specs.Room.{SameRoom}
use Rattle.engine_world.specs.View.{world_of}
use Rattle.engine_dispatches.specs.CallPoints.{point_of}
use Rattle.engine_dispatches.specs.Following.{Follows}
use Rattle.engine_dispatches.specs.Safety.{ComesOfSafe}
use Rattle.engine_dispatches.proofs.runs.run.Given as goal

abbrev pub invariant-loop : goal.invariant-loop
invariant-loop g l =
    let old = g.P.Peers.seen l.fn.pool in
    let now = g.P.Peers.seen l.pool in
    let may = g.P.Peers.relations l.fn.pool in
    record {
      follows : Follows l.definition may (point_of l.definition old l.fn.engine) (point_of l.definition now l.engine);
      room : SameRoom l.fn.engine l.engine;
      safe : ComesOfSafe l.definition (vec_capacity l.engine.stack.tasks) (point_of l.definition now l.engine);
      same : SameRelations may (g.P.Peers.relations l.pool);
      counts : Counts l.definition nothing l.engine;
      grows : IsPrefix (world_of l.fn.engine.world).transcript (world_of l.engine.world).transcript;
      few : l.fn.engine.counted ≤ most_steps → l.engine.counted ≤ most_steps;
    }

abbrev pub decreases-loop : goal.decreases-loop
decreases-loop g l = most_steps - l.engine.counted
