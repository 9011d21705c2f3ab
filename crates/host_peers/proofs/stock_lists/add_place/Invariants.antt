use Rattle.std.proofs.Common.{◌≡◌, ◌++◌, map, take, Some}
use Rattle.definition_format.specs.Meaning.{name_bytes}
use Rattle.host_peers.specs.Stock.{all_of, stock_view}
use Rattle.host_peers.proofs.stock_lists.add_place.Given as goal

abbrev pub invariant-names : goal.invariant-names
invariant-names l =
    map stock_view l.stock.items ≡ map stock_view l.fn.stock.items ++ all_of (Some l.kind) (name_bytes (take l.name-index l.entry.peers.now))
