use Rattle.native_peers.proofs.Apart.{set_apart}
use Rattle.native_peers.proofs.Numbering.{numbers_set, serials_set}
use Rattle.std.proofs.Common.{ap, string_bytes, sym, ◌∙◌}
use Rattle.native_peers.specs.Serials.{rises_from}
use Rattle.native_peers.proofs.Closing.{closed_at}
use Rattle.native_peers.proofs.Places.{here, inside}
use Rattle.native_peers.proofs.Relations.{same_relations}
use Rattle.native_peers.proofs.pools.PeerPool.close.Goals as goal

pub returns-clause-closes : goal.returns-clause-closes
returns-clause-closes g c =
    let items = c.args.self.now.peers.items in
    let at = here items c.args.k c.index_mut.result.now (inside items c.args.k _ c.requires) c.index_mut.ensures.value in
    closed_at (λ p. record { name = string_bytes p.name; state = (g.dyn-1.0.entry p.peer.vtable).1.state p.peer.value }) items c.args.k c.index_mut.result.now c.close.new.self at
    (ap (λ s. string_bytes s) c.close.ensures.name) c.close.ensures.closed

pub returns-clause-same : goal.returns-clause-same
returns-clause-same g c =
    let items = c.args.self.now.peers.items in
    let at = here items c.args.k c.index_mut.result.now (inside items c.args.k _ c.requires) c.index_mut.ensures.value in
    same_relations (λ p. (g.dyn-1.0.entry p.peer.vtable).1.moves p.peer.value) items c.args.k c.index_mut.result.now c.close.new.self at c.close.ensures.same_moves

pub invariant_of-self : goal.invariant_of-self
invariant_of-self g c =
    let items = c.args.self.now.peers.items in
    let at = here items c.args.k c.index_mut.result.now (inside items c.args.k _ c.requires) c.index_mut.ensures.value in
    record {
      apart = set_apart (λ p. string_bytes p.name) items c.args.k c.index_mut.result.now c.close.new.self at (ap (λ s. string_bytes s) c.close.ensures.name) c.args.self.now.apart;
      rising = ap (rises_from 0) (numbers_set (λ p. p.serial) items c.args.k c.index_mut.result.now c.close.new.self at c.close.ensures.serial) ∙ c.args.self.now.rising;
      numbered = λ n.
          c.args.self.now.numbered n
          ∙ sym (serials_set (λ p. string_bytes p.name) (λ p. p.serial) items c.args.k c.index_mut.result.now c.close.new.self at (ap (λ s. string_bytes s) c.close.ensures.name) c.close.ensures.serial n);
    }
