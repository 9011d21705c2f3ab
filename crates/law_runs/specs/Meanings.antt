-- Runs in whose configurations the names of the definition keep what they mean.
use Rattle.std.specs.Prelude.{◌≡◌, ℕ, false, List, Some}
use Rattle.ui_machine.specs.Definition.{Definition}
use Rattle.ui_machine.specs.Rules.Events.{names_released}
use Rattle.ui_machine.specs.Runs.{beginning, of_build, of_request}
use Rattle.ui_machine.specs.State.Config.{Config, World}
use Rattle.ui_machine.specs.State.Peers.{Peer}
use Rattle.ui_machine.specs.State.Sources.{Source, source_of}
use Rattle.ui_machine.specs.State.Tasks.{Due, Request}
use Rattle.law_typing.specs.Good.Meanings.{KeepsMeanings}
use Rattle.law_typing.specs.Good.Requests.{RequestRead}
use Rattle.law_typing.specs.Laws.StepsKeepGood.{IsResting, PoolReady}
use Rattle.law_typing.specs.Laws.WellRead.{WellRead}
use Rattle.law_typing.specs.Verdict.Accepted.{Accepted}
use Rattle.law_steps.specs.Served.Dispatches.{Throughout}

-- names mean in a configuration what they mean in the definition
abbrev pub HasMeanings : Definition → Config → Type 0
HasMeanings d c = KeepsMeanings d c.world

-- throughout the build
abbrev pub BuildsKeepMeanings : Type 0
BuildsKeepMeanings =
    (d : Definition) → WellRead d → Accepted d → (peers : List Peer) → PoolReady d peers → Throughout d (of_build d peers) (HasMeanings d)

-- throughout a request to a world at rest, that names no object which was released
abbrev pub RequestsKeepMeanings : Type 0
RequestsKeepMeanings =
    (d : Definition) → WellRead d → (a : Accepted d) → (w : World) → IsResting d a w → (r : Request) → RequestRead d r → names_released w r ≡ false →
    Throughout d (of_request w r) (HasMeanings d)

-- throughout what a source runs, in a world at rest to which it is attached
abbrev pub SourcesKeepMeanings : Type 0
SourcesKeepMeanings =
    (d : Definition) → WellRead d → (a : Accepted d) → (w : World) → IsResting d a w → (number : ℕ) (s : Source) → source_of number w.sources ≡ Some s →
    Throughout d (beginning w (Due number)) (HasMeanings d)

-- and in a world at rest
abbrev pub RestsKeepMeanings : Type 0
RestsKeepMeanings = (d : Definition) (a : Accepted d) (w : World) → IsResting d a w → KeepsMeanings d w
