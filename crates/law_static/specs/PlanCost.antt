-- What the turns of an emission cost as it begins.
use Rattle.std.specs.Prelude.{◌≡◌, ℕ, ◌+◌, ◌≤◌, List, [], Option, Some}
use Rattle.ui_machine.specs.Seq.{total}
use Rattle.ui_machine.specs.Definition.{Definition}
use Rattle.ui_machine.specs.Definition.Signals.{Signal}
use Rattle.ui_machine.specs.State.Tasks.{Task}
use Rattle.ui_machine.specs.State.Config.{World}
use Rattle.ui_machine.specs.Rules.EmissionPlan.{Planned, plan, class_handler_of}
use Rattle.law_typing.specs.Graph.Channels.{signal}
use Rattle.law_typing.specs.Graph.{Raised, graph, listed_if, stages_of}
use Rattle.law_typing.specs.Graph.Tables.{Tables}
use Rattle.law_typing.specs.Graph.Costs.{emission_cost}
use Rattle.law_typing.specs.Laws.{IsIn}
use Rattle.law_typing.specs.Good.Standing.{standing, view}
use Rattle.law_typing.specs.Good.Handlers.{HandlersGood}
use Rattle.law_typing.specs.Good.DueCosts.{turn_cost}

-- the plan of a signal's emission, which a class begins
abbrev pub planned : Definition → (class id number : ℕ) → Signal → Option (List ℕ) → Planned
planned d class id number sig detail = record {
  object = id;
  signal = number;
  detail = detail;
  flags = sig.flags;
  class_program = class_handler_of d class sig.name;
  transfers = [];
}

-- the counted step of a beginning, and the turns that it takes, are within the channel's cost
abbrev pub PlanCosts : Type 0
PlanCosts =
    (d : Definition) (costs depths : Tables) (w : World) (agenda below : List Task) (r : Raised) (id place number class : ℕ) (sig : Signal)
    (detail : Option (List ℕ)) →
    HandlersGood d costs depths (standing w.objects) agenda w.last_handler w.handlers →
    standing w.objects id ≡ Some place →
    IsIn r (graph d).raised →
    r.channel ≡ signal place number →
    r.class_handler ≡ listed_if (class_handler_of d class sig.name) →
    r.stages ≡ stages_of (Some sig) →
    1 + total (turn_cost d costs (view w) below) (plan w (planned d class id number sig detail)) ≤ emission_cost (graph d) costs r
