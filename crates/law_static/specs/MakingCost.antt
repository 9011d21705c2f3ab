-- What the making of an object costs.
use Rattle.std.specs.Prelude.{◌≡◌, ℕ, ◌≤◌, false, Some}
use Rattle.ui_machine.specs.Seq.{total}
use Rattle.ui_machine.specs.Definition.{Definition}
use Rattle.ui_machine.specs.Definition.Places.{Place}
use Rattle.ui_machine.specs.Definition.Lookups.{place_at}
use Rattle.ui_machine.specs.State.Config.{World}
use Rattle.ui_machine.specs.Rules.Construction.{construction}
use Rattle.law_typing.specs.Graph.Channels.{Channel, is_channel}
use Rattle.law_typing.specs.Graph.{graph, raised_by_making}
use Rattle.law_typing.specs.Graph.Costs.{node_cost, making_cost}
use Rattle.law_typing.specs.Verdict.Accepted.{Accepted}
use Rattle.law_typing.specs.Laws.WellRead.{PlaceRead}
use Rattle.law_typing.specs.Good.Builds.{step_cost}

-- a channel that is not there costs nothing
abbrev pub AbsentCostsNothing : Type 0
AbsentCostsNothing = (d : Definition) (a : Accepted d) (c : Channel) → is_channel d c ≡ false → node_cost (graph d) a.weighed.costs c ≡ 0

-- the steps of a construction cost together no more than what the making of the place's object raises
abbrev pub ConstructionCosts : Type 0
ConstructionCosts =
    (d : Definition) (a : Accepted d) (w : World) (place : ℕ) (p : Place) → place_at d place ≡ Some p → PlaceRead d place p →
    total (step_cost d a.weighed.costs place) (construction d w place p) ≤ making_cost (graph d) a.weighed.costs
    (raised_by_making d place p)
