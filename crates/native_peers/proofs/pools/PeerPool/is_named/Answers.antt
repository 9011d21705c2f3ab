use Rattle.std.proofs.Common.{◌≡◌, string_bytes, bytes_eq, ap, sym, ◌∙◌}
use Rattle.ui_machine.specs.Definition.Names.{place_named}
use Rattle.g_values.proofs.Texts.{same_bytes}
use Rattle.law_peers.proofs.PoolProofs.{name_true}
use Rattle.native_peers.proofs.Apart.{found}
use Rattle.native_peers.proofs.Places.{here}
use Rattle.native_peers.proofs.pools.PeerPool.is_named.Goals as goal

pub returns-in-Some : goal.returns-in-Some
returns-in-Some g c same =
    let items = c.args.self.now.peers.items in
    let v = c.in-Some.peer.now in
    let lookup = rw c.deref.ensures.value at c.in-Some.ensures.lookup in
    let at = here items c.args.number v lookup.3.0 lookup.1 in
    let called : string_bytes v.name ≡ c.args.name.now =
    name_true (string_bytes v.name) c.args.name.now (same_bytes (string_bytes v.name) c.args.name.now ∙ ap (λ n. bytes_eq n c.args.name.now) (sym c.as_str.ensures.value) ∙ sym c.eq.ensures ∙ same) in
    ap (place_named (λ p. string_bytes p.name) items) (sym called) ∙ found (λ p. string_bytes p.name) items c.args.number v at c.args.self.now.apart
