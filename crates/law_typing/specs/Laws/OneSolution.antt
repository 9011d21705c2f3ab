-- Ranks, costs and depths are numbers of the graph: where it has no cycle, its equations have one solution.
use Rattle.std.specs.Prelude.{◌≡◌, true, Some}
use Rattle.ui_machine.specs.Definition.{Definition}
use Rattle.law_typing.specs.Graph.Channels.{Channel}
use Rattle.law_typing.specs.Graph.{Graph, graph}
use Rattle.law_typing.specs.Graph.Tables.{Table, Tables}
use Rattle.law_typing.specs.Graph.Ranks.{node, is_raised, IsRanking}
use Rattle.law_typing.specs.Graph.Costs.{SolvesCosts, other_end}
use Rattle.law_typing.specs.Graph.Depths.{SolvesDepths}
use Rattle.law_typing.specs.Verdict.Accepted.{Accepted}

-- the ends of each pair are one node, and both are channels
pub record IsPaired (g : Graph) : Type 0 where
  pub node : (c e : Channel) → other_end g c ≡ Some e → node g c ≡ node g e
  pub raised : (c e : Channel) → other_end g c ≡ Some e → is_raised g e ≡ true → is_raised g c ≡ true

-- there is one ranking
abbrev pub OneRanking : Type 0
OneRanking = (g : Graph) (r u : Table) → IsRanking g r → IsRanking g u → r ≡ u

-- where there is a ranking, there is one solution of the costs
abbrev pub OneCost : Type 0
OneCost = (g : Graph) (ranks : Table) → IsRanking g ranks → IsPaired g → (t u : Tables) → SolvesCosts g t → SolvesCosts g u → t ≡ u

-- and one of the depths
abbrev pub OneDepth : Type 0
OneDepth = (g : Graph) (ranks : Table) → IsRanking g ranks → IsPaired g → (t u : Tables) → SolvesDepths g t → SolvesDepths g u → t ≡ u

-- the pairs of an accepted definition are as they should be
abbrev pub AcceptedIsPaired : Type 0
AcceptedIsPaired = (d : Definition) → Accepted d → IsPaired (graph d)

-- so an accepted definition has its ranks, costs and depths, and no others
abbrev pub AcceptedOnce : Type 0
AcceptedOnce =
    (d : Definition) (a b : Accepted d) →
    (a.weighed.ranks ≡ b.weighed.ranks) × (a.weighed.costs ≡ b.weighed.costs) × (a.weighed.depths ≡ b.weighed.depths)
