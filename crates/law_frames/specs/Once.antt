-- Runs in whose configurations no program is in two frames, and nothing is notified, emitted or made twice at a time.
use Rattle.std.specs.Prelude.{◌≡◌, ℕ, false, List, Some}
use Rattle.ui_machine.specs.Definition.{Definition}
use Rattle.ui_machine.specs.Rules.Events.{names_released}
use Rattle.ui_machine.specs.Runs.{beginning, of_build, of_request}
use Rattle.ui_machine.specs.State.Config.{World}
use Rattle.ui_machine.specs.State.Peers.{Peer}
use Rattle.ui_machine.specs.State.Sources.{Source, source_of}
use Rattle.ui_machine.specs.State.Tasks.{Due, Request}
use Rattle.law_typing.specs.Good.Requests.{RequestRead}
use Rattle.law_typing.specs.Laws.StepsKeepGood.{IsResting, PoolReady}
use Rattle.law_typing.specs.Laws.WellRead.{WellRead}
use Rattle.law_typing.specs.Verdict.Accepted.{Accepted}
use Rattle.law_steps.specs.Served.Dispatches.{Throughout}
use Rattle.law_frames.specs.Frames.{EachOnce}

-- throughout the build
abbrev pub BuildsAreOnce : Type 0
BuildsAreOnce = (d : Definition) → WellRead d → Accepted d → (peers : List Peer) → PoolReady d peers → Throughout d (of_build d peers) (EachOnce d)

-- throughout a request to a world at rest, that names no object which was released
abbrev pub RequestsAreOnce : Type 0
RequestsAreOnce =
    (d : Definition) → WellRead d → (a : Accepted d) → (w : World) → IsResting d a w → (r : Request) → RequestRead d r → names_released w r ≡ false →
    Throughout d (of_request w r) (EachOnce d)

-- throughout what a source runs, in a world at rest to which it is attached
abbrev pub SourcesAreOnce : Type 0
SourcesAreOnce =
    (d : Definition) → WellRead d → (a : Accepted d) → (w : World) → IsResting d a w → (number : ℕ) (s : Source) → source_of number w.sources ≡ Some s →
    Throughout d (beginning w (Due number)) (EachOnce d)
