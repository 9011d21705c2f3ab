use Rattle.engine_dispatches.proofs.PeerByPeer.{takes_args_by}
use Rattle.engine_dispatches.proofs.boxes.ask.Goals as goal

pub invoke-requires-clause-args : goal.invoke-requires-clause-args
invoke-requires-clause-args g c =
    rw c.as_slice.ensures.value
    (takes_args_by (g.P.Peers.seen c.args.pool.now) c.args.call.now.peer c.args.call.now.method _ c.requires.asked
    c.shape-shape.ensures.plain)

pub returns-in-Ok-clause-asks : goal.returns-in-Ok-clause-asks
returns-in-Ok-clause-asks g c = rw c.as_slice.ensures.value at c.in-Ok.ensures.asks

pub returns-in-Err-clause-asks : goal.returns-in-Err-clause-asks
returns-in-Err-clause-asks g c = rw c.as_slice.ensures.value at c.in-Err.ensures.asks
