use Rattle.std.proofs.Common.{string_bytes}
use Rattle.native_peers.specs.Pool.{entries, seen}
use Rattle.ui_machine.specs.State.Objects.{living}
use Rattle.instances.proofs.Closed.{closed_before, closed_now}
use Rattle.instances.proofs.Pools.{seen_shut}
use Rattle.instances.proofs.closings.close_peer.Goals as goal

pub returns-then-is_open-clause-closed : goal.returns-then-is_open-clause-closed
returns-then-is_open-clause-closed g c =
    closed_now (seen (λ p. (g.dyn-1.0.entry p.peer.vtable).1.state p.peer.value) (entries c.args.pool.now)) (seen (λ p. (g.dyn-1.0.entry p.peer.vtable).1.state p.peer.value) (entries c.close.new.self))
    c.in-Some.number (living c.args.table.now.objects c.args.id.0) c.in-Some.ensures c.close.ensures.closes

pub returns-else-is_open-clause-closed : goal.returns-else-is_open-clause-closed
returns-else-is_open-clause-closed g c =
    let shut = seen_shut (λ p. record { name = string_bytes p.name; state = (g.dyn-1.0.entry p.peer.vtable).1.state p.peer.value }) (entries c.args.pool.now) c.in-Some.number c.is_open.result c.is_open.ensures c.if-is_open.false in
    closed_before (seen (λ p. (g.dyn-1.0.entry p.peer.vtable).1.state p.peer.value) (entries c.args.pool.now)) c.in-Some.number shut.0 (living c.args.table.now.objects c.args.id.0) c.in-Some.ensures shut.1 shut.2
