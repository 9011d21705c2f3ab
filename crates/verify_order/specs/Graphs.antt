-- Graphs whose nodes are numbers, and orders of their nodes.
use Rattle.std.specs.Prelude.{◌≡◌, ◌<◌, ℕ, List, [], ◌∷◌, length, Option, None, Some, slice_get}

-- the nodes that the edges of each node lead to
abbrev pub Graph : Type 0
Graph = List (List ℕ)

-- some node's edges lead to a node
abbrev pub LeadTo : Option (List ℕ) → ℕ → Type 0
LeadTo None to = ⊥
LeadTo (Some edges) to = (k : ℕ) × (slice_get edges k ≡ Some to)

-- an edge leads from a node to another
abbrev pub Edge : Graph → (from to : ℕ) → Type 0
Edge g from to = LeadTo (slice_get g from) to

-- each edge leads to a node
pub record IsGraph (g : Graph) : Type 0 where
  pub inside : (from to : ℕ) → Edge g from to → to < length g

-- no node is in the list twice
abbrev pub IsOnce : List ℕ → Type 0
IsOnce nodes = (j k node : ℕ) → slice_get nodes j ≡ Some node → slice_get nodes k ≡ Some node → j ≡ k

-- all nodes, each once and behind those that its edges lead to
pub record IsOrder (g : Graph) (order : List ℕ) : Type 0 where
  pub all : (node : ℕ) → node < length g → (k : ℕ) × (slice_get order k ≡ Some node)
  pub inside : (k node : ℕ) → slice_get order k ≡ Some node → node < length g
  pub once : IsOnce order
  pub behind : (k node to : ℕ) → slice_get order k ≡ Some node → Edge g node to → (j : ℕ) × (j < k) × (slice_get order j ≡ Some to)

-- each node of a list has an edge to the next one, and the last to this one
abbrev pub LeadRound : Graph → (first : ℕ) → List ℕ → Type 0
LeadRound g first [] = ⊥
LeadRound g first (node ∷ []) = Edge g node first
LeadRound g first (node ∷ next ∷ more) = Edge g node next × LeadRound g first (next ∷ more)

-- each node of a list has an edge to the next one, and the last to the list's own first node
abbrev pub LeadsRound : Graph → List ℕ → Type 0
LeadsRound g [] = ⊥
LeadsRound g (first ∷ more) = LeadRound g first (first ∷ more)

-- nodes that lead round, each of them once
pub record IsCycle (g : Graph) (nodes : List ℕ) : Type 0 where
  pub round : LeadsRound g nodes
  pub once : IsOnce nodes
