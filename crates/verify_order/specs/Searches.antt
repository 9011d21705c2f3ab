-- What holds while the nodes of a graph are put in order.
use Rattle.std.specs.Prelude.{◌≡◌, ◌<◌, ℕ, suc, ◌+◌, ◌*◌, ◌-◌, List, [], ◌∷◌, ◌++◌, length, Some, slice_get, slice_set, slice_index_or, min, take, replicate}
use Rattle.verify_order.specs.Graphs.{Graph, Edge}

-- how far a search has come
pub record State : Type 0 where
  pub passed : List ℕ  -- of each node, how many of its edges are known to lead to nodes that are done
  pub path : List ℕ  -- nodes that are not done, each with an edge to the next one
  pub place : List ℕ  -- of each node of the path, its place on it
  pub order : List ℕ  -- the nodes that are done
  pub position : List ℕ  -- of each node that is done, its position in the order

abbrev pub state : (passed path place order position : List ℕ) → State
state passed path place order position =
    record { passed = passed; path = path; place = place; order = order; position = position }

-- a node is done
abbrev pub IsDone : State → ℕ → Type 0
IsDone s node = (k : ℕ) × (slice_get s.order k ≡ Some node)

-- the edges before this one lead to nodes that are done
abbrev pub AreDone : State → List ℕ → ℕ → Type 0
AreDone s edges count = (k to : ℕ) → k < count → slice_get edges k ≡ Some to → IsDone s to

-- what each step keeps
pub record IsSearch (g : Graph) (s : State) : Type 0 where
  pub passed_length : length s.passed ≡ length g
  pub place_length : length s.place ≡ length g
  pub position_length : length s.position ≡ length g
  pub passed : (node count k to : ℕ) (edges : List ℕ) → slice_get s.passed node ≡ Some count → slice_get g node ≡ Some edges → k < count →
      slice_get edges k ≡ Some to → IsDone s to
  pub placed : (i node : ℕ) → slice_get s.path i ≡ Some node → slice_get s.place node ≡ Some i
  pub open_yet : (i k node : ℕ) → slice_get s.path i ≡ Some node → slice_get s.order k ≡ Some node → ⊥
  pub leads : (i node to : ℕ) → slice_get s.path i ≡ Some node → slice_get s.path (suc i) ≡ Some to → Edge g node to
  pub positioned : (k node : ℕ) → slice_get s.order k ≡ Some node → slice_get s.position node ≡ Some k
  pub behind : (k node to : ℕ) → slice_get s.order k ≡ Some node → Edge g node to → (j : ℕ) × (j < k) × (slice_get s.order j ≡ Some to)

-- what is left to do: each node goes on the path, and from there into the order
abbrev pub left : Graph → State → ℕ
left g s = (1 + length g) * (length g - length s.order) + (length g - length s.path)

-- this is the last of a list
pub record IsLast (xs : List ℕ) (x : ℕ) : Type 0 where
  pub some : 0 < length xs
  pub last : slice_get xs (length xs - 1) ≡ Some x

-- ** steps

-- nothing is done, of so many nodes
abbrev pub at_first : ℕ → State
at_first count = state (replicate count 0) [] (replicate count 0) [] (replicate count 0)

-- the path begins at a node
abbrev pub begun_at : State → ℕ → State
begun_at s root = record s { path = s.path ++ root ∷ []; place = slice_set s.place root (length s.path) }

-- the path goes on from a node, by its edge of this number, to another
abbrev pub down_to : State → (node number to : ℕ) → State
down_to s node number to = record s {
  passed = slice_set s.passed node number;
  path = s.path ++ to ∷ [];
  place = slice_set s.place to (length s.path);
}

-- a node that is the last of the path is done
abbrev pub done_with : State → ℕ → State
done_with s node = record s {
  path = take (length s.path - 1) s.path;
  order = s.order ++ node ∷ [];
  position = slice_set s.position node (length s.order);
}

-- how many of a node's edges are known to lead to nodes that are done
abbrev pub passed_of : State → List ℕ → ℕ → ℕ
passed_of s edges node = min (slice_index_or s.passed node 0) (length edges)
