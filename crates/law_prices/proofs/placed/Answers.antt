use Rattle.law_prices.proofs.PlacedProofs.{places_are_within}
use Rattle.law_prices.proofs.placed.Goals as goal

pub returns : goal.returns
returns c = record { places = places_are_within }
