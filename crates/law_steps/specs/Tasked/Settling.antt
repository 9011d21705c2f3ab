-- The step that lets go of what floats, where nothing is left to do.
use Rattle.std.specs.Prelude.{◌≡◌, ℕ, ◌≤◌, [], Option, None}
use Rattle.ui_machine.specs.Definition.{Definition}
use Rattle.ui_machine.specs.State.Peers.{Reply}
use Rattle.ui_machine.specs.State.References.{mentions, next_unheld}
use Rattle.ui_machine.specs.State.Config.{World, Config}
use Rattle.ui_machine.specs.Steps.{step, most_steps}
use Rattle.law_typing.specs.Graph.Tables.{Tables}
use Rattle.law_typing.specs.Good.{Good}
use Rattle.law_typing.specs.Laws.StepsKeepGood.{Fine}

-- nothing is left to do
abbrev pub at_end : World → ℕ → Config
at_end w n = record { world = w; agenda = []; counted = n }

-- from what is good, it is not stuck, and leads to what is good within the same bound
abbrev pub SettlingIsFine : Type 0
SettlingIsFine =
    (d : Definition) (costs depths : Tables) (most_counted most : ℕ) → most_counted ≤ most_steps → (w : World) (n : ℕ) →
    Good d costs depths most_counted most (at_end w n) → next_unheld (mentions d (at_end w n)) w.objects ≡ None → (reply : Option Reply) →
    Fine d costs depths most_counted most (step d reply (at_end w n))
