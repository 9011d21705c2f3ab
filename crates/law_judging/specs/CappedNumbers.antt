-- Costs that are capped one above the greatest bound.
use Rattle.std.specs.Prelude.{◌≡◌, true, List, map, None, Some}
use Rattle.ui_machine.specs.Definition.{Definition}
use Rattle.law_typing.specs.Graph.Channels.{Entry}
use Rattle.law_typing.specs.Rules.Faults.{bound_too_large}
use Rattle.law_typing.specs.Graph.{Graph, Raised, Stretch, graph}
use Rattle.law_typing.specs.Graph.Tables.{Table, Tables}
use Rattle.law_typing.specs.Graph.Ranks.{IsRanking}
use Rattle.law_typing.specs.Graph.Costs.{SolvesCosts, bound, channel_cost, program_cost}
use Rattle.law_typing.specs.Graph.Depths.{SolvesDepths}
use Rattle.law_typing.specs.Laws.{IsIn}
use Rattle.law_typing.specs.Laws.Capped.{capped, capped_tables}
use Rattle.law_typing.specs.Laws.OneSolution.{IsPaired}
use Rattle.law_typing.specs.Verdict.{told, too_large}
use Rattle.law_typing.specs.Verdict.Accepted.{Accepted}
use Rattle.law_typing.specs.Verdict.Inherits.{inherits}
use Rattle.law_typing.specs.Verdict.Judges.{Judges}
use Rattle.law_judging.specs.FirstFaults.{first_fault}

-- the tables are the costs of the graph, each capped
pub record SolvesCapped (g : Graph) (t : Tables) : Type 0 where
  pub channels : t.channels ≡ map (λ (r : Raised). (r.channel, capped (channel_cost g t r))) g.raised
  pub programs : t.programs ≡ map (λ (p : List Stretch). capped (program_cost g t p)) g.programs

-- where the graph has ranks, they are those costs
abbrev pub CappedIsSolved : Type 0
CappedIsSolved =
    (g : Graph) (ranks : Table) (t u : Tables) → IsRanking g ranks → IsPaired g → SolvesCapped g t → SolvesCosts g u → t ≡ capped_tables u

-- ranks, capped costs and depths of a definition that breaks no rule
pub record IsReckoned (d : Definition) (ranks : Table) (costs depths : Tables) : Type 0 where
  pub lawful : first_fault d ≡ None
  pub ranking : IsRanking (graph d) ranks
  pub solves_costs : SolvesCapped (graph d) costs
  pub solves_depths : SolvesDepths (graph d) depths

-- a bound that is too large by them is the answer
abbrev pub LargeIsTold : Type 0
LargeIsTold =
    (d : Definition) (ranks : Table) (costs depths : Tables) (e : Entry) → IsReckoned d ranks costs depths → too_large (graph d) costs ≡ Some e →
    Judges d (Some (bound_too_large e))

-- where none is, there is none
abbrev pub ReckonedIsJudged : Type 0
ReckonedIsJudged =
    (d : Definition) (ranks : Table) (costs depths : Tables) → IsReckoned d ranks costs depths → too_large (graph d) costs ≡ None → Judges d None

-- the numbers of an accepted definition are these, with the same bounds
pub record AreNumbers (d : Definition) (ranks : Table) (costs depths : Tables) (a : Accepted d) : Type 0 where
  pub same_ranks : a.weighed.ranks ≡ ranks
  pub same_costs : capped_tables a.weighed.costs ≡ costs
  pub same_depths : a.weighed.depths ≡ depths
  pub same_bounds : (e : Entry) → IsIn e (told (graph d)) → bound (graph d) a.weighed.costs e ≡ bound (graph d) costs e

-- and the definition is accepted with them, as one that was read
abbrev pub ReckonedIsAccepted : Type 0
ReckonedIsAccepted =
    (d : Definition) (ranks : Table) (costs depths : Tables) → inherits d ≡ true → IsReckoned d ranks costs depths → too_large (graph d) costs ≡ None →
    (a : Accepted d) × AreNumbers d ranks costs depths a
