-- Laws of ranks, costs and depths, and of what is judged.
pub mod Costs
pub mod Chain
pub mod Names
pub mod WellRead
pub mod StepsKeepGood
pub mod RuleWords
pub mod OneSolution
pub mod Beginnings
pub mod MidRun
pub mod NotGood
pub mod WorkedRead
pub mod FaultTexts
pub mod Capped
use Rattle.std.specs.Prelude.{◌≡◌, ◌⊎◌, ℕ, ◌<◌, true, List, [], ◌∷◌, None}
use Rattle.ui_machine.specs.Definition.{Definition}
use Rattle.law_typing.specs.Graph.Channels.{Entry, Link}
use Rattle.law_typing.specs.Graph.{Graph, graph}
use Rattle.law_typing.specs.Graph.Tables.{Table, entry, Tables}
use Rattle.law_typing.specs.Graph.Ranks.{Arrow, arrows, nodes, ranks, is_cycle, IsRanking, IsAcyclic}
use Rattle.law_typing.specs.Graph.Costs.{costs, bound}
use Rattle.law_typing.specs.Graph.Depths.{depths}
use Rattle.law_typing.specs.Verdict.Inherits.{inherits}
use Rattle.law_typing.specs.Verdict.Accepted.{Accepted}
use Rattle.law_typing.specs.Verdict.Report.{report}
use Rattle.law_typing.specs.Verdict.{verdict, accepted, has_cycle}

-- x is one of the entries
abbrev pub IsIn : {A : Type 0} → A → List A → Type 0
IsIn x [] = ⊥
IsIn x (y ∷ ys) = (x ≡ y) ⊎ IsIn x ys

-- ** ranks

-- a rank rises along each edge that leads to the node of a channel
abbrev pub RanksRise : Type 0
RanksRise =
    (g : Graph) (ranks : Table) → IsRanking g ranks → (a : Arrow) → IsIn a (arrows g) → IsIn a.to (nodes g) →
    entry ranks a.from < entry ranks a.to

-- in the graph of a definition each edge does
abbrev pub EdgesLeadToNodes : Type 0
EdgesLeadToNodes = (d : Definition) (a : Arrow) → IsIn a (arrows (graph d)) → IsIn a.to (nodes (graph d))

-- where there are ranks there is no cycle
abbrev pub RankedIsAcyclic : Type 0
RankedIsAcyclic = (g : Graph) (ranks : Table) → IsRanking g ranks → IsAcyclic g

-- and where there are none there is one
abbrev pub UnrankedHasCycle : Type 0
UnrankedHasCycle = (g : Graph) → ranks g ≡ None → (links : List Link) × (is_cycle g links ≡ true)

-- ** judgement

-- what is judged to be accepted is accepted, and the report gives its ranks, costs and depths
abbrev pub JudgedIsAccepted : Type 0
JudgedIsAccepted =
    (d : Definition) (lines : List (List ℕ)) → inherits d ≡ true → verdict d ≡ accepted lines →
    (a : Accepted d) × (lines ≡ report d (graph d) a.weighed.ranks a.weighed.costs a.weighed.depths)

-- and each accepted definition is judged so, with that report
abbrev pub AcceptedIsJudged : Type 0
AcceptedIsJudged =
    (d : Definition) (a : Accepted d) → verdict d ≡ accepted (report d (graph d) a.weighed.ranks a.weighed.costs a.weighed.depths)

-- what is judged to have a cycle has one
abbrev pub CycleIsReal : Type 0
CycleIsReal = (d : Definition) → verdict d ≡ has_cycle → (links : List Link) × (is_cycle (graph d) links ≡ true)

-- ** names

-- ranks, costs and depths are of the graph alone, in which there are no names: where two definitions have one graph they have one ranking,
-- and their entries have the same bounds
abbrev pub NamesDoNotCount : Type 0
NamesDoNotCount =
    (d e : Definition) → graph d ≡ graph e →
    (ranks (graph d) ≡ ranks (graph e)) × (costs (graph d) ≡ costs (graph e)) × (depths (graph d) ≡ depths (graph e))
    × ((t : Tables) (at : Entry) → bound (graph d) t at ≡ bound (graph e) t at)
