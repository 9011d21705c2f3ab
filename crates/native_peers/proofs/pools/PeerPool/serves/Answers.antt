use Rattle.std.proofs.Common.{rules, ◌<◌, ◌∙◌, length, string_bytes, sym, ap}
use Rattle.law_peers.specs.Needs.{wrong_with}
use Rattle.native_peers.specs.Matching.{need_view}
use Rattle.native_peers.proofs.Finding.{within}
use Rattle.native_peers.proofs.Named.{nobody, somebody}
use Rattle.native_peers.proofs.Places.{here}
use Rattle.native_peers.proofs.pools.PeerPool.serves.Goals as goal

pub index-requires : goal.index-requires
index-requires g c =
    let inside : c.in-Some.k < length c.args.self.now.peers.items = within (λ p. string_bytes p.name) c.args.need.now.name.now c.args.self.now.peers.items c.in-Some.k (sym c.in-Some.ensures) in
    search rules

pub returns-in-Some : goal.returns-in-Some
returns-in-Some g c =
    let items = c.args.self.now.peers.items in
    let r = c.index.result.now in
    let at = here items c.in-Some.k r (within (λ p. string_bytes p.name) c.args.need.now.name.now items c.in-Some.k (sym c.in-Some.ensures)) c.index.ensures in
    c.fits.ensures
    ∙ ap (wrong_with (need_view c.args.need.now))
    (sym (somebody (λ p. record { name = string_bytes p.name; state = (g.dyn-1.0.entry p.peer.vtable).1.state p.peer.value }) items c.args.need.now.name.now c.in-Some.k r (sym c.in-Some.ensures) at))

pub returns-in-None : goal.returns-in-None
returns-in-None g c =
    ap (wrong_with (need_view c.args.need.now))
    (sym (nobody (λ p. record { name = string_bytes p.name; state = (g.dyn-1.0.entry p.peer.vtable).1.state p.peer.value }) c.args.self.now.peers.items c.args.need.now.name.now (sym c.in-None.ensures)))
