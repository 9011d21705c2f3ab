-- Worked bounds: of three definitions, by price lists, for what a dispatch may be asked for.
pub mod Knobs
pub mod LastReference
pub mod Pair
use Rattle.std.specs.Prelude.{ℕ, List, Option, map, option_map}
use Rattle.ui_machine.specs.Definition.{Definition}
use Rattle.law_typing.specs.Graph.Tables.{Tables}
use Rattle.law_prices.specs.Asked.{Asked}
use Rattle.law_prices.specs.Deeds.{PriceList}
use Rattle.law_prices.specs.Prices.{price_bound, prices}

-- the bounds of what is asked for, by the prices that solve the equations
abbrev pub bounds : Definition → PriceList → List Asked → Option (List ℕ)
bounds d P asked = option_map (λ (t : Tables). map (price_bound d P t) asked) (prices d P)
