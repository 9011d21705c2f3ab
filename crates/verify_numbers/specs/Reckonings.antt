-- Numbers of nodes that are reckoned, or a cycle of channels.
use Rattle.std.specs.Prelude.{◌≡◌, ◌+◌, ℕ, All, true, false, List, map}
use Rattle.verify_order.specs.Chains.{AreRanks}
use Rattle.verify_order.specs.Numbers.{AreWithin, Solves}
use Rattle.law_typing.specs.Graph.{Graph}
use Rattle.law_typing.specs.Graph.Channels.{Channel, Link, same_channel}
use Rattle.law_typing.specs.Graph.Costs.{node_cost}
use Rattle.law_typing.specs.Graph.Tables.{entry}
use Rattle.law_typing.specs.Laws.Capped.{capped}
use Rattle.law_typing.specs.Graph.Depths.{SolvesDepths}
use Rattle.law_typing.specs.Graph.Ranks.{IsRanking, is_cycle, is_raised, node}
use Rattle.law_typing.specs.Laws.WellRead.{no_two}
use Rattle.law_typing.specs.Verdict.{most_bound}
use Rattle.law_judging.specs.CappedNumbers.{SolvesCapped}
use Rattle.verify_numbers.specs.Tables.{cost_tables, depth_tables, rank_table, value_of}
use Rattle.verify_sketches.specs.Sketches.{Names, Sketch}
use Rattle.verify_numbers.specs.Columns.{Columns}
use Rattle.verify_numbers.specs.Counts.{at_in}
use Rattle.verify_numbers.specs.Links.{NamesBelow, links_view}
use Rattle.verify_numbers.specs.declared.reckonings.NodeNumbers.{NodeNumbers}
use Rattle.verify_numbers.specs.declared.reckonings.Reckoned.{Reckoned}
use Rattle.verify_numbers.specs.declared.reckonings.Reckoned.TheVariants as reckoned

-- more than any depth
abbrev pub most_depth : ℕ
most_depth = 2_147_483_648

-- numbers of nodes that were reckoned in an order
pub record AreNodeNumbers (c : Columns) (n : NodeNumbers) : Type 0 where
  pub costs : Solves c.costs (1 + most_bound) c.graph n.costs.items
  pub depths : Solves c.depths most_depth c.graph n.depths.items
  pub ranks : AreRanks c.counts c.graph n.ranks.items

-- They are the capped costs, the depths and the ranks of a graph that is sketched. The number of a channel's node is the channel's own: its cost
-- with the other end of its pair, capped; its depth; its rank. A channel that is not raised has none.
pub record AreGraphNumbers (g : Graph) (s : Sketch) (n : NodeNumbers) : Type 0 where
  pub costs : SolvesCapped g (cost_tables g (at_in s) n.costs.items)
  pub depths : SolvesDepths g (depth_tables g s (at_in s) n.depths.items)
  pub ranks : IsRanking g (rank_table g s (at_in s) n.ranks.items)
  pub cost_of : (i : ℕ) (c : Channel) → Names g i c → value_of s (at_in s) n.costs.items i ≡ capped (node_cost g (cost_tables g (at_in s) n.costs.items) c)
  pub depth_of : (i : ℕ) (c : Channel) → Names g i c → value_of s (at_in s) n.depths.items i ≡ entry (depth_tables g s (at_in s) n.depths.items).channels c
  pub rank_of : (i : ℕ) (c : Channel) → Names g i c → value_of s (at_in s) n.ranks.items i ≡ entry (rank_table g s (at_in s) n.ranks.items) (node g c)
  pub no_cost : (c : Channel) → is_raised g c ≡ false → node_cost g (cost_tables g (at_in s) n.costs.items) c ≡ 0
  pub no_depth : (c : Channel) → is_raised g c ≡ false → entry (depth_tables g s (at_in s) n.depths.items).channels c ≡ 0

-- these links are a cycle of the graph, in which no channel is twice
pub record IsCycleOnce (g : Graph) (links : List Link) : Type 0 where
  pub cycle : is_cycle g links ≡ true
  pub once : no_two same_channel (map (λ (l : Link). l.from) links) ≡ true

-- ranks and depths that 32 bits hold, with room for one more frame
pub record HaveFew (n : NodeNumbers) : Type 0 where
  pub ranks : AreWithin n.ranks.items 4_294_967_294
  pub depths : AreWithin n.depths.items 2_147_483_648

-- no number that is reckoned is too great for where it is kept: a rank, a depth, or that of a program in a cycle
abbrev pub AreFewNumbers : Reckoned → Type 0
AreFewNumbers (reckoned.Numbers n) = HaveFew n
AreFewNumbers (reckoned.Cycle links) = All (NamesBelow 256) links.items

-- what is reckoned of a graph that is sketched
abbrev pub Reckons : Graph → Sketch → Reckoned → Type 0
Reckons g s (reckoned.Numbers n) = AreGraphNumbers g s n
Reckons g s (reckoned.Cycle links) = IsCycleOnce g (links_view g links.items)
