use Rattle.std.proofs.Common.{sym, ◌∙◌}
use Rattle.engine_dispatches.proofs.PeerByPeer.{peer_opens}
use Rattle.ui_engine.proofs.TakenProofs.{shut_already, shut_now, untaken}
use Rattle.ui_engine.proofs.endings.close_if_taken.Goals as goal
use Rattle.ui_engine.proofs.endings.close_if_taken.Goals.{else-is_taken-via-then-is_taken+else-is_open, else-is_taken-via-else-is_taken}

pub returns-then-is_open-clause-closed : goal.returns-then-is_open-clause-closed
returns-then-is_open-clause-closed g c = shut_now _ c.args.number _ _ (sym c.is_taken.ensures ∙ c.if-is_taken.true) c.close.ensures.closes

pub returns-else-is_taken-clause-closed : goal.returns-else-is_taken-clause-closed
returns-else-is_taken-clause-closed g c = elim c.else-is_taken.branch [
  | else-is_taken-via-then-is_taken+else-is_open w ↦ shut_already _ c.args.number _
      (peer_opens (g.P.Peers.seen c.args.pool.now) c.args.number w.is_open.result w.is_open.ensures ∙ w.if-is_open.false)
  | else-is_taken-via-else-is_taken w ↦ untaken _ c.args.number _ (sym c.is_taken.ensures ∙ w.if-is_taken.false)
]
