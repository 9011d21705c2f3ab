use Rattle.std.proofs.Common.{◌≡◌, ◌++◌, map, take}
use Rattle.native_peers.specs.Matching.{need_view}
use Rattle.needed_peers.specs.Needing.{needs_of_kind}
use Rattle.needed_peers.proofs.needs.add_places.Given as goal

abbrev pub invariant-places : goal.invariant-places
invariant-places l =
    map need_view l.needs.items ≡ map need_view l.fn.needs.items ++ needs_of_kind l.definition l.is_prototype (take l.place l.definition.places)
