use Rattle.std.proofs.Common.{map, string_bytes, bytes_eq, true, ◌++◌, ◌∷◌, [], Some, if◌then◌else◌, ap, refl, sym, ◌∙◌}
use Rattle.std.proofs.lemmas.List.{map-append}
use Rattle.ui_machine.specs.Definition.Names.{place_named, same_name}
use Rattle.law_typing.specs.Laws.WellRead.{no_two}
use Rattle.native_peers.specs.Serials.{rises_from, serial_named}
use Rattle.native_peers.proofs.Apart.{added_apart}
use Rattle.native_peers.proofs.Numbering.{serials_added}
use Rattle.native_peers.proofs.pools.PeerPool.add.Goals as goal

pub invariant_of-self : goal.invariant_of-self
invariant_of-self g c =
    let same = c.make_room.ensures.items in
    record {
      apart = ap (λ items. no_two same_name (map (λ p. string_bytes p.name) items)) same ∙ c.args.self.now.apart;
      rising = ap (λ items. rises_from 0 (map (λ p. p.serial) items)) same ∙ c.args.self.now.rising;
      numbered = λ n.
          c.in_default.ensures.err (serial_named (λ p. string_bytes p.name) (λ p. p.serial) c.args.self.now.peers.items) c.args.self.now.numbered n
          ∙ ap (λ items. serial_named (λ p. string_bytes p.name) (λ p. p.serial) items n) (sym c.make_room.ensures.items);
    }

pub invariant_of-self-2 : goal.invariant_of-self-2
invariant_of-self-2 g c =
    let xs = c.args.self.now.peers.items in
    let name = c.in-Ok.ensures.name in
    let added = c.push.ensures.items
    ∙ ap (λ b. if b then c.make_room.new.peers.items ++ record { name = c.in-Ok.name; serial = c.in-Ok.serial; peer = c.args.peer } ∷ [] else c.make_room.new.peers.items) (c.push.ensures.succeeds c.in-Ok.ensures.room)
    ∙ ap (λ l. l ++ record { name = c.in-Ok.name; serial = c.in-Ok.serial; peer = c.args.peer } ∷ []) c.make_room.ensures.items in
    let found = c.find.ensures ∙ ap (λ n. place_named (λ p. string_bytes p.name) xs n) (sym name) in
    let none = sym c.is_some.ensures ∙ c.if-is_some.false in
    record {
      apart =
          ap (λ items. no_two same_name (map (λ p. string_bytes p.name) items)) added
          ∙ added_apart (λ p. string_bytes p.name) true xs (record { name = c.in-Ok.name; serial = c.in-Ok.serial; peer = c.args.peer }) c.find.result found none c.args.self.now.apart;
      rising =
          ap (λ items. rises_from 0 (map (λ p. p.serial) items)) added
          ∙ ap (rises_from 0) (map-append (λ p. p.serial) xs (record { name = c.in-Ok.name; serial = c.in-Ok.serial; peer = c.args.peer } ∷ []))
          ∙ c.in-Ok.ensures.rises c.args.self.now.rising;
      numbered = λ n.
          c.in-Ok.ensures.noted (serial_named (λ p. string_bytes p.name) (λ p. p.serial) xs) c.args.self.now.numbered n
          ∙ ap (λ m. if bytes_eq m n then Some c.in-Ok.serial else serial_named (λ p. string_bytes p.name) (λ p. p.serial) xs n) (sym name)
          ∙ sym (serials_added (λ p. string_bytes p.name) (λ p. p.serial) xs (record { name = c.in-Ok.name; serial = c.in-Ok.serial; peer = c.args.peer }) c.find.result found none n)
          ∙ ap (λ items. serial_named (λ p. string_bytes p.name) (λ p. p.serial) items n) (sym added);
    }

pub returns-clause-ok : goal.returns-clause-ok
returns-clause-ok g c =
    (record { name = c.in-Ok.name; serial = c.in-Ok.serial; peer = c.args.peer }, c.in-Ok-push.ensures.items ∙ ap (λ l. l ++ record { name = c.in-Ok.name; serial = c.in-Ok.serial; peer = c.args.peer } ∷ []) c.make_room.ensures.items, (c.in-Ok.ensures.name, refl))
