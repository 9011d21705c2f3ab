use Rattle.std.proofs.Common.{◌≤◌, ◌&&◌, not, length, sym, ap, ◌∙◌, arith}
use Rattle.ui_machine.specs.State.Config.{is_asked}
use Rattle.engine_world.specs.View.{world_of}
use Rattle.engine_dispatches.proofs.PeerByPeer.{peer_opens, none_open}
use Rattle.engine_dispatches.proofs.boxes.is_due.Goals as goal

pub returns-then-number-left : goal.returns-then-number-left
returns-then-number-left g c =
    let peers = g.P.Peers.seen c.args.pool.now in
    let past : length peers ≤ c.args.number = omega (arith, c.if-number-left.true, c.left.ensures.count) in
    ap (λ b. b && not (is_asked (world_of c.args.engine.now.world) c.args.number))
    (sym (none_open peers c.args.number past))

pub returns-then-is_open : goal.returns-then-is_open
returns-then-is_open g c =
    let peers = g.P.Peers.seen c.args.pool.now in
    ap not c.is_open-then-is_open.ensures
    ∙ ap (λ b. b && not (is_asked (world_of c.args.engine.now.world) c.args.number))
    (sym (peer_opens peers c.args.number c.is_open.result c.is_open.ensures ∙ c.if-is_open.true))

pub returns-else-is_open : goal.returns-else-is_open
returns-else-is_open g c =
    let peers = g.P.Peers.seen c.args.pool.now in
    c.if-is_open.false
    ∙ ap (λ b. b && not (is_asked (world_of c.args.engine.now.world) c.args.number))
    (sym (peer_opens peers c.args.number c.is_open.result c.is_open.ensures ∙ c.if-is_open.false))
