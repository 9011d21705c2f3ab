-- Parts of dispatches: some steps in the middle of one, as a host carries them out between two pauses.
use Rattle.std.specs.Prelude.{◌≡◌, ℕ, suc, ◌+◌, ◌-◌, ◌*◌, ◌≤◌, List}
use Rattle.ui_machine.specs.Definition.{Definition}
use Rattle.ui_machine.specs.Runs.{Fits, Steps}
use Rattle.ui_machine.specs.State.Config.{Config}
use Rattle.ui_machine.specs.State.Peers.{Reply}
use Rattle.law_typing.specs.Verdict.Accepted.{Each}
use Rattle.law_prices.specs.Asked.{Asked}
use Rattle.law_prices.specs.Bounds.{Within}
use Rattle.law_prices.specs.Deeds.{PriceList}
use Rattle.law_prices.specs.Deeds as deeds
use Rattle.law_prices.specs.Dispatches.{NoneHasEnded, OfDispatches, steps_price}
use Rattle.law_slices.specs.Lists.{CountedCost, uncounted, without_counted}

-- Q holds of each part of each dispatch of each run of an accepted definition, where all replies fit: of any steps from a configuration that
-- the dispatch comes to
abbrev pub OfParts : ((d : Definition) (e : Asked) (n : ℕ) (replies : List Reply) (c at : Config) → Steps d n replies c at → Type 0) → Type 0
OfParts Q =
    OfDispatches
    (λ d e m early b c before. (n : ℕ) (replies : List Reply) → Each (Fits d) replies → (at : Config) (s : Steps d n replies c at) →
    Q d e n replies c at s)

-- By any price list, a part in which at most k steps are counted, each at p or less, costs no more than k * p and the dispatch's bound by the
-- list without the counted steps.
abbrev pub PartsCost : Type 0
PartsCost =
    OfParts
    (λ d e n replies c at s. (P : PriceList) (p : ℕ) → CountedCost P p → (k : ℕ) → at.counted ≤ c.counted + k →
    Within d (without_counted P) e ((steps_price d P n replies c at s + P deeds.finish) - k * p))

-- So, until the dispatch has ended, a part in which at most k steps are counted has fewer steps than k and the dispatch's bound by the list of
-- uncounted steps.
abbrev pub PartsAreWithin : Type 0
PartsAreWithin =
    OfParts
    (λ d e n replies c at s. NoneHasEnded d n replies c at s → (k : ℕ) → at.counted ≤ c.counted + k → Within d uncounted e (suc n - k))

-- and a run of uncounted steps has fewer than that bound
abbrev pub QuietPartsAreWithin : Type 0
QuietPartsAreWithin =
    OfParts (λ d e n replies c at s. NoneHasEnded d n replies c at s → at.counted ≡ c.counted → Within d uncounted e (suc n))
