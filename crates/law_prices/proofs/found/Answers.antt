use Rattle.law_prices.proofs.BoundProofs.{prices_are_found, prices_are_once}
use Rattle.law_prices.proofs.found.Goals as goal

pub returns : goal.returns
returns c = record { found = prices_are_found; once = prices_are_once }
