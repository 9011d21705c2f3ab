-- The numbers of nodes as the ranks, costs and depths of the graph.
use Rattle.std.specs.Prelude.{◌<◌, ℕ, suc, ◌+◌, ◌*◌, List, [], ◌∷◌, length, slice_get}
use Rattle.ui_machine.specs.Seq.{listed}
use Rattle.verify_order.specs.Graphs.{IsOrder}
use Rattle.verify_order.specs.Numbers.{Solves, of_node}
use Rattle.verify_order.specs.Chains.{AreRanks}
use Rattle.law_typing.specs.Graph.{Graph, Raised}
use Rattle.law_typing.specs.Graph.Tables.{Table, Tables}
use Rattle.law_typing.specs.Graph.Ranks.{node, IsRanking}
use Rattle.law_typing.specs.Graph.Depths.{SolvesDepths}
use Rattle.law_typing.specs.Verdict.{most_bound}
use Rattle.law_judging.specs.CappedNumbers.{SolvesCapped}
use Rattle.verify_sketches.specs.Sketches.{IsSketch, Sketch}
use Rattle.verify_sketches.specs.Numbered.{IsNumbered, Node, Part, own, program, whole, first_of, counts_in, costs_in, depths_in, edges_in}

-- a number for each of some channels, where the first one has this number in the report
abbrev pub table_from : (ℕ → ℕ) → ℕ → List Raised → Table
table_from value number [] = []
table_from value number (r ∷ rs) = (r.channel, value number) ∷ table_from value (suc number) rs

-- and for their nodes
abbrev pub node_table_from : Graph → (ℕ → ℕ) → ℕ → List Raised → Table
node_table_from g value number [] = []
node_table_from g value number (r ∷ rs) = (node g r.channel, value number) ∷ node_table_from g value (suc number) rs

-- the number of a channel's node
abbrev pub value_of : Sketch → (Part → ℕ) → List ℕ → ℕ → ℕ
value_of s at values number = of_node values (at (whole (first_of (slice_get s.channels number) number)))

-- the numbers of programs
abbrev pub program_values : Graph → (Part → ℕ) → List ℕ → List ℕ
program_values g at values = listed (λ p. of_node values (at (program p))) (length g.programs)

-- costs: a channel's is that of its own emission
abbrev pub cost_tables : Graph → (Part → ℕ) → List ℕ → Tables
cost_tables g at values = record {
  channels = table_from (λ number. of_node values (at (own number))) 0 g.raised;
  programs = program_values g at values;
}

-- depths: a channel's is that of its node
abbrev pub depth_tables : Graph → Sketch → (Part → ℕ) → List ℕ → Tables
depth_tables g s at values = record {
  channels = table_from (value_of s at values) 0 g.raised;
  programs = program_values g at values;
}

-- ranks go by nodes
abbrev pub rank_table : Graph → Sketch → (Part → ℕ) → List ℕ → Table
rank_table g s at values = node_table_from g (value_of s at values) 0 g.raised

-- numbers that solve the rules of costs, one above the greatest bound at most, are the graph's costs, capped
abbrev pub CostsAreSolved : Type 0
CostsAreSolved =
    (g : Graph) (s : Sketch) (at : Part → ℕ) (nodes : List Node) (values : List ℕ) → IsSketch g s → IsNumbered s at g.most_handlers nodes →
    Solves (costs_in nodes) (1 + most_bound) (edges_in nodes) values → SolvesCapped g (cost_tables g at values)

-- numbers that solve the rules of depths are the graph's depths, where the most is more than two for each node
abbrev pub DepthsAreSolved : Type 0
DepthsAreSolved =
    (g : Graph) (s : Sketch) (at : Part → ℕ) (nodes : List Node) (order values : List ℕ) (most : ℕ) → IsSketch g s →
    IsNumbered s at g.most_handlers nodes → IsOrder (edges_in nodes) order → 2 * length nodes < most →
    Solves (depths_in nodes) most (edges_in nodes) values → SolvesDepths g (depth_tables g s at values)

-- the longest chains of nodes that count are the graph's ranks
abbrev pub ChainsAreRanks : Type 0
ChainsAreRanks =
    (g : Graph) (s : Sketch) (at : Part → ℕ) (nodes : List Node) (values : List ℕ) → IsSketch g s → IsNumbered s at g.most_handlers nodes →
    AreRanks (counts_in nodes) (edges_in nodes) values → IsRanking g (rank_table g s at values)
