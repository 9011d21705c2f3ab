use Rattle.std.proofs.Common.{take}
use Rattle.definition_format.specs.Meaning.{name_bytes}
use Rattle.engine_world.specs.PeerPlaces.{Numbered}
use Rattle.engine_world.proofs.object_peers.numbers_of.Given as goal

abbrev pub invariant-names : goal.invariant-names
invariant-names l = Numbered l.seats (name_bytes (take l.name-index l.names)) l.numbers.items
