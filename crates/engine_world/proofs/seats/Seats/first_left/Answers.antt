use Rattle.std.proofs.Common.{None, drop, get_or, sym, ap, ◌∙◌, add-one}
use Rattle.std.proofs.lemmas.Option.{slice_get-get_or}
use Rattle.engine_world.specs.PeerPlaces.{first_of}
use Rattle.engine_world.proofs.SeatedPeers.{not_this, this_one}
use Rattle.engine_world.proofs.seats.Seats.first_left.Goals as goal

pub numbers-preserved : goal.numbers-preserved
numbers-preserved c =
    let peers = c.args.self.now in
    let numbers = c.args.numbers.now in
    let i = c.numbers.number-index in
    let at = slice_get-get_or numbers i None c.numbers-test.true in
    let none = sym c.in_default.is ∙ c.left.ensures.found in
    c.numbers.invariant ∙ not_this peers numbers i (get_or numbers i None) at none ∙ ap (λ k. first_of peers (drop k numbers)) (sym (add-one i))

pub returns-in-Some-clause-first : goal.returns-in-Some-clause-first
returns-in-Some-clause-first c =
    let peers = c.args.self.now in
    let numbers = c.args.numbers.now in
    let i = c.numbers.number-index in
    let at = slice_get-get_or numbers i None c.numbers-test.true in
    let some = sym c.in-Some.is ∙ c.left.ensures.found in
    sym (c.numbers.invariant ∙ this_one peers numbers i (get_or numbers i None) at c.in-Some.left some)
