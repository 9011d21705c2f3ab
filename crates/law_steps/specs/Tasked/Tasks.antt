-- All tasks, and what follows of each step.
use Rattle.std.specs.Prelude.{◌≡◌, ℕ, ◌≤◌, Option, Ok}
use Rattle.ui_machine.specs.Definition.{Definition}
use Rattle.ui_machine.specs.State.Config.{Config}
use Rattle.ui_machine.specs.State.Peers.{Reply}
use Rattle.ui_machine.specs.State.Tasks.{Task}
use Rattle.ui_machine.specs.Steps.{step, most_steps}
use Rattle.law_typing.specs.Graph.{graph}
use Rattle.law_typing.specs.Graph.Depths.{depth}
use Rattle.law_typing.specs.Verdict.Accepted.{Accepted}
use Rattle.law_typing.specs.Good.Agenda.{frames}
use Rattle.law_typing.specs.Laws.StepsKeepGood.{IsGood, Replies}
use Rattle.law_typing.specs.Laws.WellRead.{WellRead}
use Rattle.law_steps.specs.Tasked.First.{IsFine}

-- whatever the first task is, the step that takes it is fine where nothing is to be finalised before it
abbrev pub TasksAreFine : Type 0
TasksAreFine = (task : Task) → IsFine task

-- what a step leads to, with no more counted than this and no more frames than that
pub record Leads (d : Definition) (most_counted most : ℕ) (reply : Option Reply) (c : Config) : Type 0 where
  pub next : Config
  pub is : step d reply c ≡ Ok next
  pub counted : next.counted ≤ most_counted
  pub shallow : frames next.agenda ≤ most

-- from what is good each step leads to a configuration within the bound and the depth
abbrev pub StepsAreWithin : Type 0
StepsAreWithin =
    (d : Definition) → WellRead d → (a : Accepted d) → (most_counted : ℕ) → most_counted ≤ most_steps → (c : Config) →
    IsGood d a most_counted c → (reply : Option Reply) → Replies d c reply →
    Leads d most_counted (depth (graph d) a.weighed.depths) reply c
