use Rattle.std.proofs.Common.{◌≡◌, ◌-◌, ◌^◌, drop}
use Rattle.native_peers.specs.Seen.{SameRelations}
use Rattle.ui_engine.specs.Endings.{closed_in_order, identified}
use Rattle.ui_engine.proofs.endings.close_in_order.Given as goal

abbrev pub invariant-objects : goal.invariant-objects
invariant-objects g l = record {
  closed : closed_in_order l.seats (drop (l.from.0 - 1) (identified l.table.objects)) (g.P.Peers.seen l.pool)
      ≡ closed_in_order l.seats (identified l.table.objects) (g.P.Peers.seen l.initial.pool);
  same : SameRelations (g.P.Peers.relations l.initial.pool) (g.P.Peers.relations l.pool);
}

abbrev pub decreases-objects : goal.decreases-objects
decreases-objects g l = 2 ^ 64 - l.from.0
