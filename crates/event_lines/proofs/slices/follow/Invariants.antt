use Rattle.std.proofs.Common.{◌≡◌, ◌≤◌, [], Ok, length, take, false}
use Rattle.ui_machine.specs.State.Config.{World}
use Rattle.ui_machine.specs.State.Tasks.{Event}
use Rattle.native_peers.specs.Seen.{SameRelations}
use Rattle.ui_engine.specs.SessionView.{ComesOn}
use Rattle.event_lines.specs.Slices.{SoFar, most_left}
use Rattle.event_lines.proofs.slices.follow.Given as goal

abbrev pub invariant-slices : goal.invariant-slices
invariant-slices g l =
    let old = g.P.Peers.seen l.fn.session.pool in
    let now = g.P.Peers.seen l.session.pool in
    let may = g.P.Peers.relations l.fn.session.pool in
    record {
      so : (event : Event) (w : World) → ComesOn (Ok l.fn.begun) may l.fn.session.core.definition event w [] old l.fn.session.core
          → SoFar l.progress may l.fn.session.core.definition event w (take l.fn.known l.fn.session.core.world.transcript) l.known (g.W.Writer.sent l.fn.writer) l.fn.gather (g.W.Writer.sent l.writer) l.gather now l.session.core;
      known : l.known ≤ length l.session.core.world.transcript;
      works : g.W.Writer.failed l.writer ≡ false;
      same : SameRelations may (g.P.Peers.relations l.session.pool);
    }

abbrev pub decreases-slices : goal.decreases-slices
decreases-slices g l = most_left l.progress l.session.core.counted
