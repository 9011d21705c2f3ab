use Rattle.std.proofs.Common.{sym, string_bytes, None}
use Rattle.native_peers.proofs.Needing.{needed, not_needed}
use Rattle.native_peers.proofs.mismatches.used.Goals as goal

pub returns-in-Some-clause-used : goal.returns-in-Some-clause-used
returns-in-Some-clause-used g c =
    let p = c.args.peer.now in
    needed c.args.needs.now (record { name = string_bytes p.name; state = (g.dyn-1.0.entry p.peer.vtable).1.state p.peer.value; holder = None }) c.as_str-name.result.now c.as_str-name.ensures.value
    (sym c.in-Some.ensures.known)

pub returns-in-None-clause-unused : goal.returns-in-None-clause-unused
returns-in-None-clause-unused g c =
    let p = c.args.peer.now in
    not_needed c.args.needs.now (record { name = string_bytes p.name; state = (g.dyn-1.0.entry p.peer.vtable).1.state p.peer.value; holder = None }) c.as_str-name.result.now c.as_str-name.ensures.value
    (sym c.in-None.ensures.known)
