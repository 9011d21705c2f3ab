use Rattle.std.proofs.Common.{◌≡◌, None, take}
use Rattle.engine_world.specs.PeerPlaces.{first_of}
use Rattle.engine_world.proofs.seats.Seats.got.Given as goal

abbrev pub invariant-numbers : goal.invariant-numbers
invariant-numbers l = first_of l.self (take l.known l.numbers) ≡ None → first_of l.self (take l.place l.numbers) ≡ None
