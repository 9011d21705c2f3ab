-- Graphs of which some channels are idle: nothing runs there, and nothing leads there.
use Rattle.std.specs.Prelude.{◌≡◌, ◌+◌, ℕ, Bool, true, false, List, [], Some}
use Rattle.std.specs.List.{filter}
use Rattle.law_typing.specs.Graph.{Graph, Raised, Start, Stretch}
use Rattle.law_typing.specs.Graph.Channels.{Channel, Link, signal}
use Rattle.law_typing.specs.Graph.Channels as entries
use Rattle.law_typing.specs.Graph.Costs.{bound, other_end}
use Rattle.law_typing.specs.Graph.Depths.{SolvesDepths, depth}
use Rattle.law_typing.specs.Graph.Ranks.{IsRanking, is_cycle, is_raised, node, started}
use Rattle.law_typing.specs.Graph.Tables.{Table, Tables, entry}
use Rattle.law_typing.specs.Laws.{IsIn}
use Rattle.law_judging.specs.CappedNumbers.{SolvesCapped}

-- nothing runs at a signal
pub record IsIdle (r : Raised) : Type 0 where
  pub place : ℕ
  pub number : ℕ
  pub channel : r.channel ≡ signal place number
  pub class_handler : r.class_handler ≡ []
  pub handlers : r.handlers ≡ []
  pub connectable : r.connectable ≡ []
  pub targets : r.targets ≡ []

-- a graph without its idle channels
abbrev pub without_idle : Graph → (Channel → Bool) → Graph
without_idle g busy = record g { raised = filter (λ (r : Raised). busy r.channel) g.raised }

-- all channels but the busy ones are idle, and nothing leads to them
pub record OthersAreIdle (g : Graph) (busy : Channel → Bool) : Type 0 where
  pub idle : (r : Raised) → IsIn r g.raised → busy r.channel ≡ false → IsIdle r
  pub starts : (p : List Stretch) → IsIn p g.programs → (s : Stretch) → IsIn s p → (i : Start) → IsIn i s.starts → (c : Channel) → IsIn c (started i) → busy c ≡ true
  pub targets : (r : Raised) → IsIn r g.raised → (c : Channel) → IsIn c r.targets → busy c ≡ true
  pub ends : (c e : Channel) → other_end g c ≡ Some e → (busy c ≡ true) × (busy e ≡ true)
  pub first : (c : Channel) → busy c ≡ true → busy (node g c) ≡ true
  pub alone : (c : Channel) → busy c ≡ false → node g c ≡ c
  pub makings : (cs : List Channel) → IsIn cs g.makings → (c : Channel) → IsIn c cs → busy c ≡ true
  pub built : (cs : List Channel) → IsIn cs g.built → (c : Channel) → IsIn c cs → busy c ≡ true
  pub forwards : (c : Channel) → IsIn c g.forwards → busy c ≡ true
  pub created : (c : Channel) → IsIn c g.created → busy c ≡ true
  -- where there is a channel, there is an object that may be made
  pub made : (r : Raised) → IsIn r g.raised → (cs : List Channel) × IsIn cs g.makings

-- costs of a graph that are those of the graph without its idle channels; an idle one costs just its emission
pub record AddsCosts (g : Graph) (busy : Channel → Bool) (t u : Tables) : Type 0 where
  pub solves : SolvesCapped g u
  pub at_busy : (c : Channel) → busy c ≡ true → bound g u (entries.at c) ≡ bound (without_idle g busy) t (entries.at c)
  pub at_idle : (c : Channel) → busy c ≡ false → is_raised g c ≡ true → bound g u (entries.at c) ≡ 1 + g.most_objects
  pub build : bound g u entries.build ≡ bound (without_idle g busy) t entries.build
  pub source : (p : ℕ) → bound g u (entries.source p) ≡ bound (without_idle g busy) t (entries.source p)

-- depths of a graph by those of the graph without its idle channels
pub record AddsDepths (g : Graph) (busy : Channel → Bool) (t u : Tables) : Type 0 where
  pub solves : SolvesDepths g u
  pub same : depth g u ≡ depth (without_idle g busy) t

-- ranks of a graph by those of the graph without its idle channels; that of an idle one is 0
pub record AddsRanks (g : Graph) (busy : Channel → Bool) (t u : Table) : Type 0 where
  pub solves : IsRanking g u
  pub at_busy : (c : Channel) → busy c ≡ true → is_raised g c ≡ true → entry u (node g c) ≡ entry t (node g c)
  pub at_idle : (c : Channel) → busy c ≡ false → entry u (node g c) ≡ 0

-- The numbers and cycles of a graph without its idle channels are those of the graph.
abbrev pub CostsAreAdded : Type 0
CostsAreAdded = (g : Graph) (busy : Channel → Bool) (t : Tables) → OthersAreIdle g busy → SolvesCapped (without_idle g busy) t → (u : Tables) × AddsCosts g busy t u

abbrev pub DepthsAreAdded : Type 0
DepthsAreAdded = (g : Graph) (busy : Channel → Bool) (t : Tables) → OthersAreIdle g busy → SolvesDepths (without_idle g busy) t → (u : Tables) × AddsDepths g busy t u

abbrev pub RanksAreAdded : Type 0
RanksAreAdded = (g : Graph) (busy : Channel → Bool) (t : Table) → OthersAreIdle g busy → IsRanking (without_idle g busy) t → (u : Table) × AddsRanks g busy t u

abbrev pub CyclesAreSame : Type 0
CyclesAreSame = (g : Graph) (busy : Channel → Bool) (links : List Link) → OthersAreIdle g busy → is_cycle (without_idle g busy) links ≡ is_cycle g links
