use Rattle.std.proofs.Common.{sym, ◌∙◌, arith}
use Rattle.ui_engine.proofs.InOrder.{no_peer, peer_closed, peer_past}
use Rattle.ui_engine.proofs.endings.close_of.Goals as goal

pub returns-then-number-left-clause-closed : goal.returns-then-number-left-clause-closed
returns-then-number-left-clause-closed g c = peer_closed c.args.seats.now _ c.in-Some.number _ _ (sym c.in-Some.ensures) c.close_if_taken.ensures.closed

pub returns-else-number-left-clause-closed : goal.returns-else-number-left-clause-closed
returns-else-number-left-clause-closed g c = peer_past c.args.seats.now _ c.in-Some.number _ (sym c.in-Some.ensures) (omega (arith, c.if-number-left.false, c.left.ensures))

pub returns-in_default-clause-closed : goal.returns-in_default-clause-closed
returns-in_default-clause-closed g c = no_peer c.args.seats.now _ _ (sym c.in_default.ensures)
