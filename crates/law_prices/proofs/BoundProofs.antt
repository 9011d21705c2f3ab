-- An accepted definition has its prices, so that what is said of tables that solve the equations holds of the bounds that are computed.
use Rattle.std.proofs.Common.{◌≡◌, sym, ap, ◌∙◌, ℕ, ◌+◌, ◌-◌, ◌≤◌, Some, arith}
use Rattle.std.specs.Prelude.{option_map}
use Rattle.ui_machine.specs.Definition.{Definition}
use Rattle.law_typing.specs.Graph.Tables.{Tables}
use Rattle.law_typing.specs.Verdict.Accepted.{Accepted}
use Rattle.law_prices.specs.Asked.{Asked}
use Rattle.law_prices.specs.Bounds.{CostIsWithin, LinesAreWithin, ObjectsAreWithin, PricesAreFound, PricesAreOnce, RepliesAreWithin, StepsAreWithin, Within, ZeroIsNever, most_price}
use Rattle.law_prices.specs.Deeds.{PriceList}
use Rattle.law_prices.specs.Lists.{any_call, lines, objects, steps}
use Rattle.law_prices.specs.Prices.{SolvesPrices, price_bound}
use Rattle.law_prices.proofs.CountProofs.{free_is_never, replies_are_few, steps_are_few}
use Rattle.law_prices.proofs.DispatchPays.{dispatches_pay}
use Rattle.law_prices.proofs.MadeSteps.{objects_are_few}
use Rattle.law_prices.proofs.SaidSteps.{lines_are_few}
use Rattle.law_prices.proofs.SettlesPrices.{one_solution, prices_end}
use Rattle.law_prices.proofs.SolvedProofs.{prices_are_solved}

pub prices_are_found : PricesAreFound
prices_are_found d a P = let e = prices_end d a P in (e.at, e.is)

pub prices_are_once : PricesAreOnce
prices_are_once d a P t solves =
    let e = prices_end d a P in
    e.is ∙ ap (λ (t : Tables). Some t) (one_solution d a P e.at t (prices_are_solved d P e.at e.is) solves)

-- what is within the bound by any tables that solve the equations is within that which is computed
pub within : (d : Definition) → Accepted d → (P : PriceList) (e : Asked) (n : ℕ) → ((t : Tables) → SolvesPrices d P t → n ≤ price_bound d P t e) → Within d P e n
within d a P e n less =
    let found = prices_end d a P in
    record {
      most = price_bound d P found.at e;
      is = ap (option_map (λ (t : Tables). price_bound d P t e)) found.is;
      within = less found.at (prices_are_solved d P found.at found.is);
    }

pub cost_is_within : CostIsWithin
cost_is_within d well a peers ready events read x replies fit n at s P =
    within d a P _ _ (dispatches_pay d well a peers ready events read x replies fit n at s P)

-- what is there is one
some_is : (n m : ℕ) → Some n ≡ Some m → n ≡ m
some_is n m e = cc

-- what is within a bound of 0 is 0
pub zero_bound : (d : Definition) → Accepted d → (P : PriceList) (e : Asked) (n : ℕ) → most_price d P e ≡ Some 0 → Within d P e n → n ≤ 0
zero_bound d a P e n none w = let zero = some_is w.most 0 (sym w.is ∙ none) in let low = w.within in omega (arith, zero, low)

pub zero_is_never : ZeroIsNever
zero_is_never d well a peers ready events read x replies fit n at s P none deed some h =
    let found = prices_end d a P in
    let zero = some_is _ _ (sym (ap (option_map (λ (t : Tables). price_bound d P t _)) found.is) ∙ none) in
    free_is_never d well a peers ready events read x replies fit n at s P found.at (prices_are_solved d P found.at found.is) zero deed some h

pub steps_are_within : StepsAreWithin
steps_are_within d well a peers ready events read x replies fit n at s none =
    within d a steps _ _ (steps_are_few d well a peers ready events read x replies fit n at s none)

pub replies_are_within : RepliesAreWithin
replies_are_within d well a peers ready events read x replies fit n at s =
    within d a any_call _ _ (replies_are_few d well a peers ready events read x replies fit n at s)

-- what grows by no more is no more than what is added
grown : (new old most : ℕ) → new ≤ old + most → new - old ≤ most
grown new old most h = omega (arith, h)

pub lines_are_within : LinesAreWithin
lines_are_within d well a peers ready events read x replies fit n at s =
    within d a (lines d) _ _ (λ t solves. grown _ _ _ (lines_are_few d well a peers ready events read x replies fit n at s t solves))

pub objects_are_within : ObjectsAreWithin
objects_are_within d well a peers ready events read x replies fit n at s =
    within d a objects _ _ (λ t solves. grown _ _ _ (objects_are_few d well a peers ready events read x replies fit n at s t solves))
