-- Runs whose configurations name only what lives.
use Rattle.std.specs.Prelude.{◌≡◌, ℕ, false, List, Some}
use Rattle.ui_machine.specs.Definition.{Definition}
use Rattle.ui_machine.specs.Rules.Events.{names_released}
use Rattle.ui_machine.specs.Runs.{beginning, of_build, of_request}
use Rattle.ui_machine.specs.State.Config.{World}
use Rattle.ui_machine.specs.State.Peers.{Peer}
use Rattle.ui_machine.specs.State.Sources.{Source, source_of}
use Rattle.ui_machine.specs.State.Tasks.{Due, Request}
use Rattle.law_typing.specs.Good.Living.{AllNamesLiving, WorldNamesLiving}
use Rattle.law_typing.specs.Good.Requests.{RequestRead}
use Rattle.law_typing.specs.Laws.StepsKeepGood.{IsResting, PoolReady}
use Rattle.law_typing.specs.Laws.WellRead.{WellRead}
use Rattle.law_typing.specs.Verdict.Accepted.{Accepted}
use Rattle.law_steps.specs.Served.Dispatches.{Throughout}

-- throughout the build
abbrev pub BuildsNameLiving : Type 0
BuildsNameLiving =
    (d : Definition) → WellRead d → Accepted d → (peers : List Peer) → PoolReady d peers → Throughout d (of_build d peers) (AllNamesLiving d)

-- throughout a request to a world at rest, that names no object which was released
abbrev pub RequestsNameLiving : Type 0
RequestsNameLiving =
    (d : Definition) → WellRead d → (a : Accepted d) → (w : World) → IsResting d a w → (r : Request) → RequestRead d r → names_released w r ≡ false →
    Throughout d (of_request w r) (AllNamesLiving d)

-- throughout what a source runs, in a world at rest to which it is attached
abbrev pub SourcesNameLiving : Type 0
SourcesNameLiving =
    (d : Definition) → WellRead d → (a : Accepted d) → (w : World) → IsResting d a w → (number : ℕ) (s : Source) → source_of number w.sources ≡ Some s →
    Throughout d (beginning w (Due number)) (AllNamesLiving d)

-- and in a world at rest
abbrev pub RestsNameLiving : Type 0
RestsNameLiving = (d : Definition) (a : Accepted d) (w : World) → IsResting d a w → WorldNamesLiving d w
