use Rattle.std.proofs.Common.{rules, ◌<◌, None, length, if◌then◌else◌, bytes_eq, map, string_bytes, sym, ap, ◌∙◌}
use Rattle.std.proofs.lemmas.Map.Text.{btree_map_updates_text}
use Rattle.ui_machine.specs.Definition.Names.{same_name}
use Rattle.law_typing.specs.Laws.WellRead.{no_two}
use Rattle.native_peers.specs.Serials.{rises_from, serial_named}
use Rattle.native_peers.proofs.Apart.{left_apart}
use Rattle.native_peers.proofs.Finding.{named, read_there, within}
use Rattle.native_peers.proofs.Numbering.{numbers_less, rises_less, serials_less}
use Rattle.native_peers.proofs.Places.{here}
use Rattle.native_peers.proofs.pools.PeerPool.take.Goals as goal

pub remove-peer-requires : goal.remove-peer-requires
remove-peer-requires g c =
    let inside : c.in_ok-k.k < length c.args.self.now.peers.items = within (λ p. string_bytes p.name) c.args.name.now c.args.self.now.peers.items c.in_ok-k.k (sym c.in_ok-k.ensures) in
    search rules

pub returns-clause-taken : goal.returns-clause-taken
returns-clause-taken g c =
    let items = c.args.self.now.peers.items in
    read_there (λ p. p.peer) items _ c.in_ok-k.k c.remove-peer.result c.in_ok-k.ensures
    (within (λ p. string_bytes p.name) c.args.name.now items c.in_ok-k.k (sym c.in_ok-k.ensures)) c.remove-peer.ensures.value

pub invariant_of-self : goal.invariant_of-self
invariant_of-self g c =
    let items = c.args.self.now.peers.items in
    let serials = c.args.self.now.serials in
    let k = c.in_ok-k.k in
    let x = c.remove-peer.result in
    let left = c.remove-peer.ensures.items in
    let at = here items k x (within (λ p. string_bytes p.name) c.args.name.now items k (sym c.in_ok-k.ensures)) c.remove-peer.ensures.value in
    let own = named (λ p. string_bytes p.name) c.args.name.now items k x (sym c.in_ok-k.ensures) at in
    record {
      apart = ap (λ items. no_two same_name (map (λ p. string_bytes p.name) items)) left ∙ left_apart (λ p. string_bytes p.name) items k c.args.self.now.apart;
      rising =
          ap (λ items. rises_from 0 (map (λ p. p.serial) items)) left
          ∙ ap (rises_from 0) (numbers_less (λ p. p.serial) items k)
          ∙ rises_less 0 (map (λ p. p.serial) items) k c.args.self.now.rising;
      numbered = λ n.
          btree_map_updates_text c.args.name.now serials c.remove.new.self None c.remove.ensures.updates n
          ∙ ap (λ o. if bytes_eq c.args.name.now n then None else o) (c.args.self.now.numbered n)
          ∙ ap (λ m. if bytes_eq m n then None else serial_named (λ p. string_bytes p.name) (λ p. p.serial) items n) (sym own)
          ∙ sym (serials_less (λ p. string_bytes p.name) (λ p. p.serial) items k x at c.args.self.now.apart n)
          ∙ ap (λ items. serial_named (λ p. string_bytes p.name) (λ p. p.serial) items n) (sym left);
    }
