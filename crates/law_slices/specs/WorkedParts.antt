-- A block that sets a property 65,535 times. Most of its steps are uncounted, and yet each part of it is short: a part in which 100 steps are
-- counted has no more than 1,011.
use Rattle.std.specs.Prelude.{◌≡◌, ℕ, ◌+◌, ◌≤◌, List, [], ◌∷◌, None, Some}
use Rattle.ui_machine.specs.Runs.{Fits, Steps}
use Rattle.ui_machine.specs.State.Config.{Config}
use Rattle.ui_machine.specs.State.Peers.{Reply}
use Rattle.ui_machine.specs.State.Tasks.{Event, request}
use Rattle.ui_machine.specs.State.Tasks as config
use Rattle.law_typing.specs.Examples.MostPasses.{definition}
use Rattle.law_typing.specs.Laws.StepsKeepGood.{PoolReady}
use Rattle.law_typing.specs.Laws.WellRead.{WellRead}
use Rattle.law_typing.specs.Verdict.Accepted.{Accepted, Each}
use Rattle.law_steps.specs.Served.Sessions.{Dispatch, EventRead, beginning_of}
use Rattle.law_prices.specs.Asked.{Asked, emit}
use Rattle.law_prices.specs.Bounds.{most_price}
use Rattle.law_prices.specs.Dispatches.{NoneHasEnded, asked_for}
use Rattle.law_prices.specs.Lists.{counted}
use Rattle.law_slices.specs.Depths.{most_frames}
use Rattle.law_slices.specs.Lists.{extra, uncounted}

-- the emission of `b.go`, at which the block runs
abbrev pub go : Asked
go = emit 0 1

abbrev pub events : List Event
events = request (config.emit 0 1 [] None) ∷ []

-- the premises of the law are met, with an empty pool
pub record PremisesMet : Type 0 where
  pub well : WellRead definition
  pub accepted : Accepted definition
  pub ready : PoolReady definition []
  pub read : Each (EventRead definition) events

-- the numbers of the definition
pub record Numbers : Type 0 where
  pub counted : most_price definition counted go ≡ Some 196_675
  pub uncounted : most_price definition uncounted go ≡ Some 196_609
  pub extra : most_price definition extra go ≡ Some 2
  pub frames : most_frames definition ≡ Some 3

-- so each part in which at most 100 steps are counted has at most 100 + 101 * (2 * 3 + 3) + 2
abbrev pub HundredCounted : Type 0
HundredCounted =
    (x : Dispatch definition [] events) → asked_for x ≡ go → (early : List Reply) → Each (Fits definition) early → (m : ℕ) (c : Config) →
    Steps definition m early (beginning_of x) c → (n : ℕ) (replies : List Reply) → Each (Fits definition) replies → (at : Config)
    (s : Steps definition n replies c at) → NoneHasEnded definition n replies c at s → at.counted ≤ c.counted + 100 → n ≤ 1_011
