-- Agendas that are alike in what handlers, bindings, pairs and the build read of them: what is good of a world stays so.
use Rattle.std.specs.Prelude.{◌≡◌, ℕ, List}
use Rattle.ui_machine.specs.Seq.{total}
use Rattle.ui_machine.specs.Definition.{Definition}
use Rattle.ui_machine.specs.State.Tasks.{Item, Task}
use Rattle.ui_machine.specs.State.Config.{BuilderEntry, World}
use Rattle.ui_machine.specs.Rules.Build.{of_items}
use Rattle.law_typing.specs.Graph.Tables.{Tables}
use Rattle.law_typing.specs.Good.DueCosts.{unsets}
use Rattle.law_typing.specs.Good.Builds.{is_for_builder, BuildGood}
use Rattle.law_typing.specs.Good.Freezes.{is_carrying_over}
use Rattle.law_steps.specs.Kept.Write.{Whole}

pub record Alike (a b : List Task) : Type 0 where
  -- the build has as much of each item to do
  pub items : (f : Item → ℕ) → total (of_items f) b ≡ total (of_items f) a
  -- the same bindings are to be set free, and as many transfers are under way
  pub unset : (number : ℕ) → total (unsets number) b ≡ total (unsets number) a
  pub request_step : total is_carrying_over b ≡ total is_carrying_over a
  -- the builder makes the same objects
  pub makes : total is_for_builder b ≡ total is_for_builder a

-- what is good of a world with one of them is good with the other
abbrev pub WholeStays : Type 0
WholeStays =
    (d : Definition) (costs depths : Tables) (a b : List Task) (w : World) → Alike a b → Whole d costs depths a w →
    Whole d costs depths b w

-- where the builder makes as many objects the build goes on as it did
abbrev pub BuildStays : Type 0
BuildStays =
    (d : Definition) (builder : List BuilderEntry) (a b tasks : List Task) → total is_for_builder b ≡ total is_for_builder a →
    BuildGood d builder a tasks → BuildGood d builder b tasks
