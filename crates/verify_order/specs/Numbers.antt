-- Numbers of nodes that solve their rules.
use Rattle.std.specs.Prelude.{◌≡◌, ◌<◌, ◌≤◌, ◌+◌, ◌*◌, ℕ, Bool, true, false, List, [], ◌∷◌, length, max, min, Some, slice_get, slice_index_or}
use Rattle.verify_order.specs.Graphs.{Graph}
use Rattle.verify_order.specs.declared.rules.Rule.{Rule}

-- the number of a node
abbrev pub of_node : List ℕ → ℕ → ℕ
of_node values node = slice_index_or values node 0

-- these nodes have numbers
abbrev pub LeadInside : List ℕ → List ℕ → Type 0
LeadInside nodes values = (k node : ℕ) → slice_get nodes k ≡ Some node → node < length values

-- no number is above the most
abbrev pub AreWithin : List ℕ → ℕ → Type 0
AreWithin values most = (node : ℕ) → of_node values node ≤ most

-- ** rules

-- the sum of the numbers of some nodes
abbrev pub total : (ℕ → ℕ) → List ℕ → ℕ
total number [] = 0
total number (x ∷ xs) = number x + total number xs

-- the greatest of them, 0 of none
abbrev pub greatest : (ℕ → ℕ) → List ℕ → ℕ
greatest number [] = 0
greatest number (x ∷ xs) = max (number x) (greatest number xs)

abbrev pub counted : Bool → (ℕ → ℕ) → List ℕ → ℕ
counted true number nodes = total number nodes
counted false number nodes = greatest number nodes

-- what a rule makes of the numbers of some nodes, or the most where that is more
abbrev pub number_by : Rule → ℕ → (ℕ → ℕ) → List ℕ → ℕ
number_by rule most number nodes = min (rule.times * counted rule.adds number nodes + rule.more) most

-- each node has a number, which its rule makes of those of the nodes that it depends on
pub record Solves (rules : List Rule) (most : ℕ) (g : Graph) (values : List ℕ) : Type 0 where
  pub count : length values ≡ length g
  pub within : AreWithin values most
  pub each : (node : ℕ) (rule : Rule) (nodes : List ℕ) → slice_get rules node ≡ Some rule → slice_get g node ≡ Some nodes →
      of_node values node ≡ number_by rule most (of_node values) nodes
