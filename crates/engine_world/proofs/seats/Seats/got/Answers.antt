use Rattle.std.proofs.Common.{◌≡◌, None, get_or, take, sym, ap, ◌∙◌, add-one}
use Rattle.std.proofs.lemmas.Option.{slice_get-get_or}
use Rattle.ui_machine.specs.State.Peers.{if_left}
use Rattle.engine_world.specs.PeerPlaces.{first_of}
use Rattle.engine_world.proofs.GotPeers.{none_found, one_past}
use Rattle.engine_world.proofs.seats.Seats.got.Goals as goal

pub numbers-preserved : goal.numbers-preserved
numbers-preserved c known =
    let peers = c.args.self.now in
    let numbers = c.args.numbers.now in
    let i = c.numbers.place in
    let number = get_or numbers i None in
    let at = slice_get-get_or numbers i None c.numbers-test.true in
    let none : if_left peers number None ≡ None = sym c.left.ensures.found ∙ none_found c.left.result (sym c.is_some.ensures ∙ c.if-is_some.false) in
    ap (λ k. first_of peers (take k numbers)) (add-one i) ∙ one_past peers numbers i number at none (c.numbers.invariant known)
