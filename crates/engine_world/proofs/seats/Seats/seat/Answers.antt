use Rattle.std.proofs.Common.{◌≡◌, ◌<◌, List, length, map, get_or, ap, subst, sym, arith}
use Rattle.std.specs.Prelude.{IsTrue}
use Rattle.std.proofs.lemmas.List.{length-map}
use Rattle.ui_machine.specs.Definition.Signals.{Method}
use Rattle.peer_shapes.specs.MethodViews.{is_plain_shape}
use Rattle.engine_world.specs.SeatView.{seated}
use Rattle.engine_world.specs.declared.seats.Seat.{Seat}
use Rattle.engine_world.proofs.SeatedPeers.{plain_seat, sits_there}
use Rattle.engine_world.proofs.seats.Seats.seat.Goals as goal

pub returns-clause-plain : goal.returns-clause-plain
returns-clause-plain c =
    let ss = c.self.inside.seats.items in
    let v = c.in_ok-seat.seat.now in
    let same = length-map ss seated in
    let here = ap (λ (l : List Seat). length l) c.deref.ensures.value in
    let inside : c.args.number < length (map seated ss) = omega (arith, c.in_ok-seat.ensures.lookup.3.0, same, here) in
    let is : v ≡ get_or ss c.args.number v = subst (λ (l : List Seat). v ≡ get_or l c.args.number v) c.deref.ensures.value c.in_ok-seat.ensures.lookup.1 in
    subst (λ (l : List Method). IsTrue (is_plain_shape l)) (sym c.as_ref.ensures) (plain_seat ss c.args.number v (sits_there ss c.args.number v inside is) c.self.invariant.0)
