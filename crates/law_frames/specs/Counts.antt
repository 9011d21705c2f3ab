-- How many programs run, and how many constructions go on.
use Rattle.std.specs.Prelude.{◌≡◌, ℕ, ◌+◌, ◌≤◌, false, List, Some, length}
use Rattle.ui_machine.specs.Definition.{Definition}
use Rattle.ui_machine.specs.Rules.Events.{names_released}
use Rattle.ui_machine.specs.Runs.{beginning, of_build, of_request}
use Rattle.ui_machine.specs.State.Config.{Config, World}
use Rattle.ui_machine.specs.State.Peers.{Peer}
use Rattle.ui_machine.specs.State.Sources.{Source, source_of}
use Rattle.ui_machine.specs.State.Tasks.{Due, Request}
use Rattle.law_typing.specs.Good.Requests.{RequestRead}
use Rattle.law_typing.specs.Laws.StepsKeepGood.{IsResting, PoolReady}
use Rattle.law_typing.specs.Laws.WellRead.{WellRead}
use Rattle.law_typing.specs.Verdict.Accepted.{Accepted}
use Rattle.law_steps.specs.Served.Dispatches.{Throughout}
use Rattle.law_runs.specs.Stacks.{constructions, programs}

-- no more programs run than the definition has, and no more constructions go on than that, and one
pub record FewRun (d : Definition) (c : Config) : Type 0 where
  pub programs : programs c.agenda ≤ length d.programs
  pub constructions : constructions c.agenda ≤ length d.programs + 1

-- throughout the build
abbrev pub BuildsRunFew : Type 0
BuildsRunFew = (d : Definition) → WellRead d → Accepted d → (peers : List Peer) → PoolReady d peers → Throughout d (of_build d peers) (FewRun d)

-- throughout a request to a world at rest, that names no object which was released
abbrev pub RequestsRunFew : Type 0
RequestsRunFew =
    (d : Definition) → WellRead d → (a : Accepted d) → (w : World) → IsResting d a w → (r : Request) → RequestRead d r → names_released w r ≡ false →
    Throughout d (of_request w r) (FewRun d)

-- throughout what a source runs, in a world at rest to which it is attached
abbrev pub SourcesRunFew : Type 0
SourcesRunFew =
    (d : Definition) → WellRead d → (a : Accepted d) → (w : World) → IsResting d a w → (number : ℕ) (s : Source) → source_of number w.sources ≡ Some s →
    Throughout d (beginning w (Due number)) (FewRun d)
