use Rattle.std.proofs.Common.{rules, string_bytes, sym, ◌∙◌}
use Rattle.std.proofs.lemmas.List.Sorted.{answers_always}
use Rattle.native_peers.proofs.Numbering.{no_place, place_searched}
use Rattle.native_peers.proofs.pools.PeerPool.find.Goals as goal

pub returns-in_err-serial : goal.returns-in_err-serial
returns-in_err-serial g c =
    c.from_residual.ensures
    ∙ sym (no_place (λ p. string_bytes p.name) (λ p. p.serial) c.args.self.now.peers.items c.args.name.now (sym (c.args.self.now.numbered c.args.name.now) ∙ sym c.in_err-serial.ensures.value))

pub returns : goal.returns
returns g c =
    let search_ends = c.binary_search_by_key.ensures in
    c.ok.ensures.value
    ∙ place_searched (λ p. string_bytes p.name) (λ p. p.serial) c.args.self.now.peers.items c.args.name.now c.in_ok-serial.serial.now c.binary_search_by_key.result c.args.self.now.rising
    (sym (c.args.self.now.numbered c.args.name.now) ∙ sym c.in_ok-serial.ensures.value)
    (rw c.deref.ensures.value at search_ends.bound)
    (rw c.deref.ensures.value at (search_ends.position (λ p. p.serial) (answers_always _ _ _ (λ f a r h called. search rules))))
