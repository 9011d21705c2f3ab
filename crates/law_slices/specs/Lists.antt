-- Price lists of what is not counted.
use Rattle.std.specs.Prelude.{ℕ, ◌<◌, ◌≤◌, cond, nat_eq}
use Rattle.ui_machine.specs.State.Tasks.{forwards}
use Rattle.law_prices.specs.Asked as asked
use Rattle.law_prices.specs.Deeds.{Deed, PriceList, begin, built, construct, item, settle, turn}
use Rattle.law_prices.specs.Lists.{counted, steps}

-- a price list without its prices of counted steps
abbrev pub without_counted : PriceList → PriceList
without_counted P deed = cond (nat_eq (counted deed) 0) (P deed) 0

-- each step but the counted ones, and the end of a dispatch
abbrev pub uncounted : PriceList
uncounted = without_counted steps

-- by a price list a counted step costs no more than p, beside what it makes or disposes
abbrev pub CountedCost : PriceList → ℕ → Type 0
CountedCost P p = (deed : Deed) → 0 < counted deed → P deed ≤ p

-- The uncounted steps that the depth of a dispatch does not bound: turns, and the steps of constructions, of the build, of what is asked for,
-- and of what floats. Some of them start one more: a construction a set or a thaw, a forward reference its set, and a request to set a set.
abbrev pub extra : PriceList
extra (turn place signal) = 1
extra (construct place) = 2
extra (item (forwards place slot to)) = 2
extra (item _) = 1
extra built = 1
extra (begin (asked.set place slot)) = 2
extra (begin _) = 1
extra (settle place) = 1
extra _ = 0
