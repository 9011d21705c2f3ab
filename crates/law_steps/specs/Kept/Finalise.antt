-- The finalisation of an object that nothing holds: the step is not stuck, and what is good stays.
use Rattle.std.specs.Prelude.{◌≡◌, ℕ, ◌≤◌, Some}
use Rattle.ui_machine.specs.Definition.{Definition}
use Rattle.ui_machine.specs.State.Config.{Config}
use Rattle.ui_machine.specs.State.References.{mentions, next_unheld}
use Rattle.ui_machine.specs.Steps.{most_steps, counted, finalising}
use Rattle.law_typing.specs.Graph.Tables.{Tables}
use Rattle.law_typing.specs.Good.{Good}
use Rattle.law_typing.specs.Laws.StepsKeepGood.{Fine}

-- where an object is without a mention, the step that finalises it is not stuck and leads to what is good
abbrev pub FinalisationIsFine : Type 0
FinalisationIsFine =
    (d : Definition) (costs depths : Tables) (most_counted most : ℕ) → most_counted ≤ most_steps → (c : Config) →
    Good d costs depths most_counted most c → (id : ℕ) → next_unheld (mentions d c) c.world.objects ≡ Some id →
    Fine d costs depths most_counted most (counted c.agenda c.counted (finalising d c.world id))
