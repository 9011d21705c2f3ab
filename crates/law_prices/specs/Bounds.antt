-- The bounds of an accepted definition, as numbers that are computed from it alone, and what they say of its dispatches.
use Rattle.std.specs.Prelude.{◌≡◌, ℕ, suc, ◌+◌, ◌-◌, ◌<◌, ◌≤◌, length, Option, Some, option_map}
use Rattle.ui_machine.specs.Definition.{Definition}
use Rattle.law_typing.specs.Graph.Tables.{Tables}
use Rattle.law_typing.specs.Verdict.Accepted.{Accepted}
use Rattle.law_prices.specs.Asked.{Asked}
use Rattle.law_prices.specs.Deeds.{Deed, PriceList}
use Rattle.law_prices.specs.Deeds as deeds
use Rattle.law_prices.specs.Dispatches.{Happens, NoneHasEnded, OfDispatches, steps_price}
use Rattle.law_prices.specs.Lists.{any_call, lines, objects, steps}
use Rattle.law_prices.specs.Prices.{SolvesPrices, price_bound, prices}

-- what a dispatch may cost at most by the prices that are computed, if the graph has no cycle
abbrev pub most_price : Definition → PriceList → Asked → Option ℕ
most_price d P e = option_map (λ (t : Tables). price_bound d P t e) (prices d P)

-- there is such a bound, and a number is within it
pub record Within (d : Definition) (P : PriceList) (e : Asked) (n : ℕ) : Type 0 where
  pub most : ℕ
  pub is : most_price d P e ≡ Some most
  pub within : n ≤ most

-- by any price list the prices of an accepted definition are computed
abbrev pub PricesAreFound : Type 0
PricesAreFound = (d : Definition) → Accepted d → (P : PriceList) → (t : Tables) × (prices d P ≡ Some t)

-- and no other tables solve the equations
abbrev pub PricesAreOnce : Type 0
PricesAreOnce = (d : Definition) → Accepted d → (P : PriceList) (t : Tables) → SolvesPrices d P t → prices d P ≡ Some t

-- no dispatch costs more than its bound: its steps so far, and its end
abbrev pub CostIsWithin : Type 0
CostIsWithin = OfDispatches (λ d e n replies c at s. (P : PriceList) → Within d P e (steps_price d P n replies c at s + P deeds.finish))

-- what has a price never happens where the bound is 0
abbrev pub ZeroIsNever : Type 0
ZeroIsNever =
    OfDispatches
    (λ d e n replies c at s. (P : PriceList) → most_price d P e ≡ Some 0 → (deed : Deed) → 0 < P deed → Happens d deed n replies c at s → ⊥)

-- until it has ended a dispatch takes no more steps than its bound by the list of all steps says, its end among them
abbrev pub StepsAreWithin : Type 0
StepsAreWithin = OfDispatches (λ d e n replies c at s. NoneHasEnded d n replies c at s → Within d steps e (suc n))

-- its peers are asked no more often than its bound by the list of all calls says
abbrev pub RepliesAreWithin : Type 0
RepliesAreWithin = OfDispatches (λ d e n replies c at s. Within d any_call e (length replies))

-- the transcript grows by no more lines than the bound by the list of lines says, the line of the end among them
abbrev pub LinesAreWithin : Type 0
LinesAreWithin =
    OfDispatches
    (λ d e n replies c at s. Within d (lines d) e (suc (length at.world.transcript) - length c.world.transcript))

-- no more objects are made than the bound by the list of objects says
abbrev pub ObjectsAreWithin : Type 0
ObjectsAreWithin =
    OfDispatches (λ d e n replies c at s. Within d objects e (length at.world.objects - length c.world.objects))
