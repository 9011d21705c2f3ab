use Rattle.std.proofs.Common.{sym, ap}
use Rattle.ui_machine.specs.State.Peers.{Peer, no_peer}
use Rattle.engine_world.specs.SeatView.{lent_view}
use Rattle.engine_world.proofs.MakingSteps.{read_nothing, read_there}
use Rattle.engine_dispatches.proofs.boxes.is_open.Goals as goal

pub returns-in-Some : goal.returns-in-Some
returns-in-Some c =
    ap (λ (p : Peer). p.state.is_open) (sym (read_there no_peer c.args.engine.now.world.seats c.args.number (lent_view c.in-Some.seat) (sym c.in-Some.ensures.found)))

pub returns-in-None : goal.returns-in-None
returns-in-None c =
    ap (λ (p : Peer). p.state.is_open) (sym (read_nothing no_peer c.args.engine.now.world.seats c.args.number (sym c.in-None.ensures.found)))
