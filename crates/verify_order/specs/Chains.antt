-- How many nodes that count are on the longest chain that ends in a node.
use Rattle.std.specs.Prelude.{◌≡◌, ◌≤◌, ◌+◌, ◌⊎◌, ℕ, Bool, true, false, List, [], ◌∷◌, length, max, slice_index_or, slice_set}
use Rattle.verify_order.specs.Graphs.{Edge, Graph}
use Rattle.verify_order.specs.Numbers.{of_node}

abbrev pub one_if : Bool → ℕ
one_if true = 1
one_if false = 0

-- 1 for a node that counts
abbrev pub step : List Bool → ℕ → ℕ
step counts node = one_if (slice_index_or counts node false)

-- numbers of nodes, where some nodes have this number at least
abbrev pub handed_on : List ℕ → ℕ → List ℕ → List ℕ
handed_on [] number ranks = ranks
handed_on (node ∷ nodes) number ranks = handed_on nodes number (slice_set ranks node (max (of_node ranks node) number))

-- each number is the greatest of those of the nodes that depend on the node, with one more for a node that counts; 0 where none does
pub record AreRanks (counts : List Bool) (g : Graph) (ranks : List ℕ) : Type 0 where
  pub count : length ranks ≡ length g
  pub above : (from to : ℕ) → Edge g from to → of_node ranks from + step counts from ≤ of_node ranks to
  pub reached : (to : ℕ) →
      (of_node ranks to ≡ 0) ⊎ ((from : ℕ) × Edge g from to × (of_node ranks to ≡ of_node ranks from + step counts from))
