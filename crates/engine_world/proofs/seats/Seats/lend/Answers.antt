use Rattle.std.proofs.Common.{◌≡◌, ◌<◌, Some, List, length, map, slice_set, refl, sym, arith, rules, subst}
use Rattle.std.proofs.lemmas.List.{length-map}
use Rattle.ui_machine.specs.Rules.Construction.{lent}
use Rattle.ui_machine.specs.State.Peers.{Peer}
use Rattle.engine_world.specs.SeatView.{seated}
use Rattle.engine_world.specs.declared.seats.Seat.{Seat}
use Rattle.engine_world.proofs.SeatedPeers.{changed_seat, numbers_changed, plain_changed, sits_there}
use Rattle.engine_world.proofs.seats.Seats.lend.Goals as goal

pub index_mut-requires : goal.index_mut-requires
index_mut-requires c =
    let same = length-map c.self.inside.seats.items seated in
    let less : c.args.number < length (map seated c.self.inside.seats.items) = subst (λ (ps : List Peer). c.args.number < length ps) (sym c.self.view_is) c.requires in
    let inside : c.args.number < length c.self.inside.seats.items = omega (arith, less, same) in
    search rules

pub invariant_of-self : goal.invariant_of-self
invariant_of-self c =
    let v = c.index_mut.result.now in
    let w : Seat = record { name = v.name; shape = v.shape; is_open = v.is_open; holder = Some c.args.object } in
    let at = sits_there c.self.inside.seats.items c.args.number v (subst (λ (ps : List Peer). c.args.number < length ps) (sym c.self.view_is) c.requires) c.index_mut.ensures.value in
    (plain_changed c.self.inside.seats.items c.args.number v w at refl c.self.invariant.0, numbers_changed c.self.inside.numbers c.self.inside.seats.items c.args.number v w at refl c.self.invariant.1)

pub returns : goal.returns
returns c =
    let v = c.index_mut.result.now in
    let w : Seat = record { name = v.name; shape = v.shape; is_open = v.is_open; holder = Some c.args.object } in
    let at = sits_there c.self.inside.seats.items c.args.number v (subst (λ (ps : List Peer). c.args.number < length ps) (sym c.self.view_is) c.requires) c.index_mut.ensures.value in
    subst (λ (ps : List Peer). map seated (slice_set c.self.inside.seats.items c.args.number w) ≡ lent (Some c.args.number) c.args.object.0 ps) c.self.view_is
    (changed_seat c.self.inside.seats.items c.args.number v w (λ (p : Peer). record p { holder = Some c.args.object.0 }) at refl)
