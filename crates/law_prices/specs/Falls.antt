-- Each step of a dispatch is paid: the potential falls by its price.
use Rattle.std.specs.Prelude.{◌≡◌, ℕ, ◌+◌, ◌≤◌, Option, Ok}
use Rattle.ui_machine.specs.Definition.{Definition}
use Rattle.ui_machine.specs.State.Config.{Config}
use Rattle.ui_machine.specs.State.Peers.{Reply}
use Rattle.ui_machine.specs.Steps.{most_steps, step}
use Rattle.law_typing.specs.Graph.Tables.{Tables}
use Rattle.law_typing.specs.Laws.StepsKeepGood.{IsGood, Replies}
use Rattle.law_typing.specs.Laws.WellRead.{WellRead}
use Rattle.law_typing.specs.Verdict.Accepted.{Accepted}
use Rattle.law_prices.specs.Deeds.{PriceList}
use Rattle.law_prices.specs.Paid.{Paid}
use Rattle.law_prices.specs.Potential.{potential}
use Rattle.law_prices.specs.Prices.{SolvesPrices}
use Rattle.law_prices.specs.Steps.{step_price}

-- what a step leads to costs less by the price of the step, and its handlers are still reckoned for
pub record StepIsPaid (d : Definition) (a : Accepted d) (P : PriceList) (t : Tables) (c e : Config) : Type 0 where
  pub falls : step_price d P c + potential d P t e ≤ potential d P t c
  pub paid : Paid d a e

-- by any price list, in an accepted definition
abbrev pub PricesFall : Type 0
PricesFall =
    (d : Definition) → WellRead d → (a : Accepted d) → (P : PriceList) (t : Tables) → SolvesPrices d P t → (most_counted : ℕ) →
    most_counted ≤ most_steps → (c : Config) → IsGood d a most_counted c → Paid d a c → (reply : Option Reply) → Replies d c reply →
    (e : Config) → step d reply c ≡ Ok e → StepIsPaid d a P t c e
