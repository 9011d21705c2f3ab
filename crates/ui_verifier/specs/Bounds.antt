-- The numbers of a definition as they are reckoned: no bound is distinguished above the greatest one.
use Rattle.std.specs.Prelude.{◌≡◌, ◌+◌, ◌≤◌, ℕ, List, map}
use Rattle.ui_machine.specs.Definition.{Definition}
use Rattle.law_typing.specs.Graph.{Graph, graph}
use Rattle.law_typing.specs.Graph.Channels.{Channel, channels}
use Rattle.law_typing.specs.Graph.Channels as entries
use Rattle.law_typing.specs.Graph.Costs.{bound}
use Rattle.law_typing.specs.Graph.Depths.{SolvesDepths, depth}
use Rattle.law_typing.specs.Graph.Ranks.{IsRanking, node}
use Rattle.law_typing.specs.Graph.Tables.{Table, Tables, entry}
use Rattle.law_typing.specs.Laws.Capped.{capped}
use Rattle.law_judging.specs.CappedNumbers.{SolvesCapped}
use Rattle.law_idle.specs.Idle.{busy_channels, busy_graph, is_busy}
use Rattle.law_idle.specs.Resting.{AddsCosts, AddsDepths, AddsRanks}
use Rattle.law_typing.specs.Verdict.{most_bound}
use Rattle.verified.specs.Told.{source_view, told_bound, told_rank}
use Rattle.verified.specs.declared.numbers.Numbers.{Numbers}

-- numbers by these tables of a graph with these channels, each bound capped
pub record AreCappedIn (g : Graph) (cs : List Channel) (n : Numbers) (by_rank : Table) (by_cost by_depth : Tables) : Type 0 where
  pub ranks : n.ranks.items ≡ map (λ (c : Channel). entry by_rank (node g c)) cs
  pub bounds : n.bounds.items ≡ map (λ (c : Channel). capped (bound g by_cost (entries.at c))) cs
  pub build : n.build ≡ capped (bound g by_cost entries.build)
  pub sources : map source_view n.sources.items ≡ map (λ (p : ℕ). (p, capped (bound g by_cost (entries.source p)))) g.sources
  pub depth : n.depth ≡ depth g by_depth

-- those of a definition, where its busy channels have numbers; the bound of an idle channel is not too large
pub record AreCapped (d : Definition) (n : Numbers) (by_rank : Table) (by_cost by_depth : Tables) : Type 0 where
  pub ranks : map (told_rank d n) (channels d) ≡ map (λ (c : Channel). entry by_rank (node (graph d) c)) (channels d)
  pub bounds : map (told_bound d n) (channels d) ≡ map (λ (c : Channel). capped (bound (graph d) by_cost (entries.at c))) (channels d)
  pub idle : n.idle ≤ most_bound
  pub build : n.build ≡ capped (bound (graph d) by_cost entries.build)
  pub sources : map source_view n.sources.items ≡ map (λ (p : ℕ). (p, capped (bound (graph d) by_cost (entries.source p)))) (graph d).sources
  pub depth : n.depth ≡ depth (graph d) by_depth

-- those of a definition without its idle channels, as they are reckoned
pub record AreBusyNumbers (d : Definition) (n : Numbers) : Type 0 where
  pub by_rank : Table
  pub by_cost : Tables
  pub by_depth : Tables
  pub ranking : IsRanking (busy_graph d) by_rank
  pub solves_costs : SolvesCapped (busy_graph d) by_cost
  pub solves_depths : SolvesDepths (busy_graph d) by_depth
  pub idle : n.idle ≡ capped (1 + d.most_objects)
  pub capped : AreCappedIn (busy_graph d) (busy_channels d) n by_rank by_cost by_depth

-- ** idle channels

-- numbers of all channels are those of the busy ones, and those of idle ones
abbrev pub AddsIdle : Definition → Numbers → Type 0
AddsIdle d n =
    (by_rank all_ranks : Table) (by_cost all_costs by_depth all_depths : Tables) → AreCappedIn (busy_graph d) (busy_channels d) n by_rank by_cost by_depth →
    AddsRanks (graph d) (is_busy d) by_rank all_ranks → AddsCosts (graph d) (is_busy d) by_cost all_costs → AddsDepths (graph d) (is_busy d) by_depth all_depths →
    AreCapped d n all_ranks all_costs all_depths

-- ** bounds

-- costs with a finalisation for each of some objects, each capped
abbrev pub with_objects : ℕ → List ℕ → List ℕ
with_objects objects costs = map (λ (n : ℕ). capped (n + objects)) costs
