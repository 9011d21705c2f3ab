use Rattle.std.proofs.Common.{◌≡◌, drop}
use Rattle.engine_world.specs.PeerPlaces.{first_of}
use Rattle.engine_world.proofs.seats.Seats.first_left.Given as goal

abbrev pub invariant-numbers : goal.invariant-numbers
invariant-numbers l = first_of l.self l.numbers ≡ first_of l.self (drop l.number-index l.numbers)
