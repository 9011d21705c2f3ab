use Rattle.std.proofs.Common.{◌≡◌, ◌∷◌, ◌++◌, [], List, Some, None, map, length, string_bytes, bytes_eq, if◌then◌else◌, sym, ap, subst, ◌∙◌, arith}
use Rattle.std.specs.BTreeMap.{get_by_text}
use Rattle.std.specs.List.{AllByRecursion}
use Rattle.std.proofs.lemmas.List.{length-map, map-append}
use Rattle.std.proofs.lemmas.Map.Text.{btree_map_updates_text}
use Rattle.ui_machine.specs.State.Peers.{Peer, peer_number}
use Rattle.engine_world.specs.SeatView.{AreNumbers, HasPlainShape, seated}
use Rattle.engine_world.specs.declared.seats.Seat.{Seat}
use Rattle.engine_world.proofs.SeatedPeers.{number_last, plain_more, same_numbers}
use Rattle.engine_world.proofs.seats.Seats.add.Goals as goal

-- no memory was found
pub invariant_of-self : goal.invariant_of-self
invariant_of-self c =
    subst (λ (ss : List Seat). AllByRecursion HasPlainShape (map seated ss) × AreNumbers c.self.inside.numbers (map seated ss)) (sym c.reserve.ensures.items) c.self.invariant

pub invariant_of-self-in_err-insert : goal.invariant_of-self-in_err-insert
invariant_of-self-in_err-insert c =
    let are = same_numbers c.self.inside.numbers c.insert.new.self (map seated c.self.inside.seats.items) c.in_err-insert.ensures.err c.self.invariant.1 in
    subst (λ (ss : List Seat). AllByRecursion HasPlainShape (map seated ss) × AreNumbers c.insert.new.self (map seated ss)) (sym c.reserve.ensures.items) (c.self.invariant.0, are)

-- it was added
pub invariant_of-self-2 : goal.invariant_of-self-2
invariant_of-self-2 c =
    let ss = c.self.inside.seats.items in
    let seat : Seat = record { name = c.args.name; shape = c.args.shape; is_open = c.args.is_open; holder = None } in
    let added : c.push.new.self.items ≡ ss ++ seat ∷ [] = c.in-Ok.ensures.items ∙ ap (λ l. l ++ seat ∷ []) c.reserve.ensures.items in
    let known : map seated c.push.new.self.items ≡ map seated ss ++ seated seat ∷ [] = ap (λ (l : List Seat). map seated l) added ∙ map-append seated ss (seat ∷ []) in
    let fresh = subst (λ (v : List Peer). peer_number v (string_bytes c.args.name) ≡ None) (sym c.self.view_is) c.requires.fresh in
    let same = length-map ss seated in
    let here = ap (λ (l : List Seat). length l) c.reserve.ensures.items in
    let number : c.len.result ≡ length (map seated ss) = omega (arith, c.len.ensures, c.reserve.new.self.ok, here, same) in (
      subst (λ (ps : List Peer). AllByRecursion HasPlainShape ps) (sym known) (plain_more (map seated ss) (seated seat) c.self.invariant.0 c.requires.plain),
      λ name.
          btree_map_updates_text (string_bytes c.in_ok-key.key) c.self.inside.numbers c.insert.new.self (Some c.len.result) c.in_ok-insert.ensures.updates name
          ∙ ap (λ k. if bytes_eq k name then Some c.len.result else get_by_text c.self.inside.numbers name) (c.in_ok-key.ensures.ok ∙ c.as_str.ensures.value)
          ∙ ap (λ o. if bytes_eq (string_bytes c.args.name) name then Some c.len.result else o) (c.self.invariant.1 name)
          ∙ ap (λ n. if bytes_eq (string_bytes c.args.name) name then Some n else peer_number (map seated ss) name) number
          ∙ sym (number_last (map seated ss) (seated seat) name fresh)
          ∙ ap (λ (ps : List Peer). peer_number ps name) (sym known),
    )
