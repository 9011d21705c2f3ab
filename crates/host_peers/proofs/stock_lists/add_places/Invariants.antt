use Rattle.std.proofs.Common.{◌≡◌, ◌++◌, map, take}
use Rattle.host_peers.specs.Stock.{stock_of_kind, stock_view}
use Rattle.host_peers.proofs.stock_lists.add_places.Given as goal

abbrev pub invariant-places : goal.invariant-places
invariant-places l =
    map stock_view l.stock.items ≡ map stock_view l.fn.stock.items ++ stock_of_kind l.definition l.is_prototype (take l.place l.definition.places)
