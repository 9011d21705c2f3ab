-- Nodes as they are kept: their edges, the rules of their costs and of their depths, and whether they count, each in a list.
use Rattle.std.specs.Prelude.{ℕ, Bool, List, [], ◌∷◌, ◌++◌}
use Rattle.verify_order.specs.declared.rules.Rule.{Rule}
use Rattle.verify_sketches.specs.Numbered.{Node}

pub record Columns : Type 0 where
  pub graph : List (List ℕ)
  pub costs : List Rule
  pub depths : List Rule
  pub counts : List Bool

-- some lists with more entries in the last
abbrev pub grown : List (List ℕ) → List ℕ → List (List ℕ)
grown [] more = []
grown (xs ∷ []) more = (xs ++ more) ∷ []
grown (xs ∷ ys ∷ lists) more = xs ∷ grown (ys ∷ lists) more

-- with these edges more of the last node
abbrev pub linked : Columns → List ℕ → Columns
linked c to = record c { graph = grown c.graph to }

-- with a node more
abbrev pub with_row : Columns → (edges : List ℕ) (cost depth : Rule) (counts : Bool) → Columns
with_row c edges cost depth counts = record {
  graph = c.graph ++ edges ∷ [];
  costs = c.costs ++ cost ∷ [];
  depths = c.depths ++ depth ∷ [];
  counts = c.counts ++ counts ∷ [];
}

abbrev pub with_node : Columns → Node → Columns
with_node c y = with_row c y.edges y.cost y.depth y.counts

-- with some nodes more
abbrev pub with_nodes : Columns → List Node → Columns
with_nodes c [] = c
with_nodes c (y ∷ ys) = with_nodes (with_node c y) ys

abbrev pub no_columns : Columns
no_columns = record { graph = []; costs = []; depths = []; counts = [] }
