-- By the list of counted steps the prices are the costs, and the bounds are those of the report.
use Rattle.std.specs.Prelude.{◌≡◌}
use Rattle.ui_machine.specs.Definition.{Definition}
use Rattle.law_typing.specs.Graph.{graph}
use Rattle.law_typing.specs.Graph.Channels.{Entry, property, signal}
use Rattle.law_typing.specs.Graph.Channels as entries
use Rattle.law_typing.specs.Graph.Costs.{SolvesCosts, bound}
use Rattle.law_typing.specs.Graph.Tables.{Tables}
use Rattle.law_typing.specs.Verdict.Accepted.{Accepted}
use Rattle.law_prices.specs.Asked.{Asked, build, emit, get, release, set, source}
use Rattle.law_prices.specs.Lists.{counted}
use Rattle.law_prices.specs.Prices.{SolvesPrices, price_bound}

-- the entry of the report for what is asked for
abbrev pub entry_for : Asked → Entry
entry_for build = entries.build
entry_for (set place slot) = entries.at (property place slot)
entry_for (get place slot) = entries.plain
entry_for (emit place number) = entries.at (signal place number)
entry_for (release place) = entries.plain
entry_for (source program) = entries.source program

pub record Today (d : Definition) (t : Tables) : Type 0 where
  -- what solves the equations of costs solves those of prices, and the other way round
  pub prices : SolvesCosts (graph d) t → SolvesPrices d counted t
  pub costs : SolvesPrices d counted t → SolvesCosts (graph d) t
  -- the bounds are the same, number for number
  pub bounds : (e : Asked) → price_bound d counted t e ≡ bound (graph d) t (entry_for e)

abbrev pub CountedIsToday : Type 0
CountedIsToday = (d : Definition) → Accepted d → (t : Tables) → Today d t
