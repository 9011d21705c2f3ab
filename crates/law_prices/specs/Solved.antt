-- The prices that are computed solve their equations.
use Rattle.std.specs.Prelude.{◌≡◌, Some}
use Rattle.ui_machine.specs.Definition.{Definition}
use Rattle.law_typing.specs.Graph.Tables.{Tables}
use Rattle.law_prices.specs.Deeds.{PriceList}
use Rattle.law_prices.specs.Prices.{SolvesPrices, prices}

abbrev pub PricesAreSolved : Type 0
PricesAreSolved = (d : Definition) (P : PriceList) (t : Tables) → prices d P ≡ Some t → SolvesPrices d P t
