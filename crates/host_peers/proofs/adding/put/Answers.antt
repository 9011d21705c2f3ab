use Rattle.std.proofs.Common.{ap, rules, ◌∙◌}
use Rattle.native_peers.specs.Pool.{entries, seen_one}
use Rattle.host_peers.proofs.Putting.{put_known, put_new}
use Rattle.host_peers.proofs.adding.put.Goals as goal

pub returns-in-Ok-clause-seen : goal.returns-in-Ok-clause-seen
returns-in-Ok-clause-seen g c =
    let added = c.in-Ok.ensures.ok in
    put_new (λ p. seen_one ((g.dyn-1.0.entry p.peer.vtable).1.state p.peer.value) p) (entries c.args.pool.now) (entries c.add.new.self) added.0
    (record { name = c.args.name.now; state = (g.dyn-1.0.entry c.args.peer.vtable).1.state c.args.peer.value }) c.in-Ok.ensures.fresh added.1
    (ap (λ n. record { name = n; state = (g.dyn-1.0.entry added.0.peer.vtable).1.state added.0.peer.value }) added.2.0
    ∙ ap (λ b. record { name = c.args.name.now; state = (g.dyn-1.0.entry b.vtable).1.state b.value }) added.2.1)

pub returns-in-Err-DuplicatePeer-clause-seen : goal.returns-in-Err-DuplicatePeer-clause-seen
returns-in-Err-DuplicatePeer-clause-seen g c =
    put_known (λ p. seen_one ((g.dyn-1.0.entry p.peer.vtable).1.state p.peer.value) p) (entries c.args.pool.now) (entries c.add.new.self)
    (record { name = c.args.name.now; state = (g.dyn-1.0.entry c.args.peer.vtable).1.state c.args.peer.value }) (c.in-Err-DuplicatePeer.ensures.duplicate.0 (search rules)) c.in-Err-DuplicatePeer.ensures.err
