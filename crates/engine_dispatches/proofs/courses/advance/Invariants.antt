use Rattle.std.proofs.Common.{◌≡◌, ◌+◌, ℕ, List, length}
use Rattle.ui_machine.specs.Prefix.{IsPrefix}
use Rattle.ui_machine.specs.State.Config.{World}
use Rattle.ui_machine.specs.State.Tasks.{Event}
use Rattle.native_peers.specs.Seen.{SameRelations}
use Rattle.engine_world.specs.Counting.{Counts, nothing}
use Rattle.engine_world.specs.Room.{SameRoom}
use Rattle.engine_world.specs.View.{world_of}
use Rattle.engine_dispatches.specs.CallPoints.{point_of}
use Rattle.engine_dispatches.specs.Courses.{IsUnderWay, sources_left}
use Rattle.engine_dispatches.proofs.courses.advance.Given as goal

abbrev pub invariant-dispatches : goal.invariant-dispatches
invariant-dispatches g l =
    let old = g.P.Peers.seen l.fn.pool in
    let now = g.P.Peers.seen l.pool in
    let may = g.P.Peers.relations l.fn.pool in
    record {
      so : (event : Event) (w : World) (front : List (List ℕ)) → IsUnderWay l.definition may event w front l.fn.course (point_of l.definition old l.fn.engine)
          → IsUnderWay l.definition may event w front l.course (point_of l.definition now l.engine);
      same : SameRelations may (g.P.Peers.relations l.pool);
      counts : Counts l.definition nothing l.engine;
      room : SameRoom l.fn.engine l.engine;
      grows : IsPrefix (world_of l.fn.engine.world).transcript (world_of l.engine.world).transcript;
      asked : l.course.asked ≡ l.fn.course.asked;
      made : l.course.so_far.steps + l.engine.counted + l.most ≡ l.fn.course.so_far.steps + l.fn.engine.counted + l.fn.most;
    }

abbrev pub decreases-dispatches : goal.decreases-dispatches
decreases-dispatches g l = length (sources_left l.course.left)
