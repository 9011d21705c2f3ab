use Rattle.std.proofs.Common.{◌≡◌, take}
use Rattle.native_peers.specs.Seen.{SameRelations}
use Rattle.ui_engine.specs.Endings.{taken_closed}
use Rattle.ui_engine.proofs.endings.close_taken.Given as goal

abbrev pub invariant-peers : goal.invariant-peers
invariant-peers g l = record {
  closed : g.P.Peers.seen l.pool
      ≡ taken_closed (take l.number l.seats) (g.P.Peers.seen l.initial.pool);
  same : SameRelations (g.P.Peers.relations l.initial.pool) (g.P.Peers.relations l.pool);
}
