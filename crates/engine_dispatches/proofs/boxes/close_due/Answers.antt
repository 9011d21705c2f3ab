use Rattle.std.proofs.Common.{not, sym, ◌∙◌}
use Rattle.ui_machine.specs.State.Config.{is_asked}
use Rattle.engine_world.specs.View.{world_of}
use Rattle.engine_dispatches.proofs.Apt.{and_parts}
use Rattle.engine_dispatches.proofs.PeerByPeer.{open_peer}
use Rattle.engine_dispatches.proofs.boxes.close_due.Goals as goal

pub close-requires : goal.close-requires
close-requires g c =
    open_peer (g.P.Peers.seen c.args.pool.now) c.in-Some.number
    (and_parts _ (not (is_asked (world_of c.args.engine.now.world) c.in-Some.number)) (sym c.is_due.ensures ∙ c.if-is_due.true)).0
