-- Sketches as graphs of numbered nodes: which nodes there are, what each depends on, and how its cost and its depth come of theirs.
use Rattle.std.specs.Prelude.{◌≡◌, ℕ, zero, suc, ◌+◌, ◌*◌, ◌-◌, Bool, true, false, cond, nat_eq, List, [], ◌∷◌, ◌++◌, length, map, Option, None, Some, slice_get}
use Rattle.ui_machine.specs.Seq.{read, listed}
use Rattle.law_typing.specs.Graph.Costs.{before_last, only_last}
use Rattle.verify_order.specs.declared.rules.Rule.{Rule}
use Rattle.verify_sketches.specs.Pointwise.{inside}
use Rattle.verify_sketches.specs.Sketches.{Sketch, SketchedBlock, SketchedChannel, SketchedStart, nothing, raises, makes, thaws}

-- what a node is for
pub data Part : Type 0 where
  whole : (channel : ℕ) → Part  -- a channel as it is raised: of a pair both ends
  own : (channel : ℕ) → Part  -- its emission, or its construction
  stages : (channel : ℕ) → Part  -- its class handler, at all stages
  connected : (channel : ℕ) → Part  -- the handlers that bytecode may connect there
  group : (number : ℕ) → Part
  program : (number : ℕ) → Part
  blocks : (program : ℕ) → Part  -- all of a program's blocks
  place : (number : ℕ) → Part  -- all paired properties of a place
  start : (number : ℕ) → Part
  block : (program number : ℕ) → Part
  passes : (program number : ℕ) → Part  -- a block's instructions before the last
  next : (program number : ℕ) → Part  -- the blocks after one

-- a node: the nodes that it depends on, the rules of its cost and its depth, and whether it counts in ranks
pub record Node : Type 0 where
  pub part : Part
  pub edges : List ℕ
  pub cost : Rule
  pub depth : Rule
  pub counts : Bool

abbrev pub node_of : Part → List ℕ → (cost depth : Rule) → Node
node_of part edges cost depth = record { part = part; edges = edges; cost = cost; depth = depth; counts = false }

-- ** rules

-- the sum, so many times, with more on top
abbrev pub sum_of : (times more : ℕ) → Rule
sum_of times more = record { adds = true; times = times; more = more }

-- the greatest, so many times, with more on top
abbrev pub greatest_of : (times more : ℕ) → Rule
greatest_of times more = record { adds = false; times = times; more = more }

abbrev pub one_if : Bool → ℕ
one_if true = 1
one_if false = 0

-- ** edges, where each part has a number

-- the first end of the pair of a channel, or the channel itself
abbrev pub first_of : Option SketchedChannel → ℕ → ℕ
first_of None number = number
first_of (Some k) number = k.first

-- the nodes of channels
abbrev pub nodes_of : Sketch → (Part → ℕ) → List ℕ → List ℕ
nodes_of s at numbers = map (λ number. at (whole (first_of (slice_get s.channels number) number))) numbers

-- the programs that are there
abbrev pub programs_of : Sketch → (Part → ℕ) → List ℕ → List ℕ
programs_of s at programs = map (λ p. at (program p)) (inside (length s.programs) programs)

-- the starts that are there
abbrev pub starts_of : Sketch → (Part → ℕ) → List ℕ → List ℕ
starts_of s at starts = map (λ number. at (start number)) (inside (length s.starts) starts)

-- the emissions of a channel's node: its own, and that of the other end; none at the end of a pair that is not the first
abbrev pub end_of : (Part → ℕ) → Option ℕ → List ℕ
end_of at None = []
end_of at (Some other) = at (own other) ∷ []

abbrev pub ends_of : (Part → ℕ) → ℕ → SketchedChannel → List ℕ
ends_of at number k = cond (nat_eq k.first number) (at (own number) ∷ end_of at k.other) []

-- what a channel's node costs beside its emissions: a transfer between the ends of a pair
abbrev pub transfer_if : Option ℕ → ℕ
transfer_if None = 0
transfer_if (Some other) = 1

-- and the frames of its emissions
abbrev pub frames_of : Bool → Option ℕ → ℕ
frames_of emits None = one_if emits
frames_of emits (Some other) = 2

-- the first of so many blocks of a program
abbrev pub first_block : (Part → ℕ) → (program count : ℕ) → List ℕ
first_block at p zero = []
first_block at p (suc count) = at (block p 0) ∷ []

-- those of some blocks that come after one, where the program has so many
abbrev pub next_blocks : (Part → ℕ) → (program count number : ℕ) → List ℕ → List ℕ
next_blocks at p count number to = map (λ b. at (block p b)) (inside count (map (λ b. suc number + (b - suc number)) to))

-- what a start leads to
abbrev pub start_edges : Sketch → (Part → ℕ) → SketchedStart → List ℕ
start_edges s at nothing = []
start_edges s at (raises channels) = nodes_of s at channels
start_edges s at (makes channels) = nodes_of s at channels
start_edges s at (thaws places) = map (λ number. at (place number)) (inside (length s.paired) places)

abbrev pub start_cost : SketchedStart → Rule
start_cost nothing = greatest_of 1 0
start_cost (raises channels) = greatest_of 1 0
start_cost (makes channels) = sum_of 1 1
start_cost (thaws places) = greatest_of 1 0

abbrev pub start_depth : SketchedStart → Rule
start_depth nothing = greatest_of 1 0
start_depth (raises channels) = greatest_of 1 0
start_depth (makes channels) = greatest_of 1 1
start_depth (thaws places) = greatest_of 1 0

-- ** nodes

-- the node of a channel, and its parts; so many handlers may be connected by bytecode
abbrev pub whole_node : (Part → ℕ) → ℕ → SketchedChannel → Node
whole_node at number k = record {
  part = whole number;
  edges = ends_of at number k;
  cost = sum_of 1 (transfer_if k.other);
  depth = greatest_of 1 (frames_of k.emits k.other);
  counts = true;
}

abbrev pub own_node : Sketch → (Part → ℕ) → ℕ → SketchedChannel → Node
own_node s at number k =
    node_of (own number) (at (stages number) ∷ at (connected number) ∷ (programs_of s at k.handlers ++ nodes_of s at k.targets))
    (sum_of 1 (one_if k.emits + k.transfers)) (greatest_of 1 0)

abbrev pub stages_node : Sketch → (Part → ℕ) → ℕ → SketchedChannel → Node
stages_node s at number k = node_of (stages number) (programs_of s at k.class_handler) (sum_of k.stages 0) (greatest_of 1 0)

abbrev pub connected_node : Sketch → (Part → ℕ) → (handlers : ℕ) → ℕ → SketchedChannel → Node
connected_node s at handlers number k =
    node_of (connected number) (map (λ g. at (group g)) (inside (length s.groups) k.groups)) (greatest_of handlers 0) (greatest_of 1 0)

abbrev pub group_node : Sketch → (Part → ℕ) → ℕ → List ℕ → Node
group_node s at number programs = node_of (group number) (programs_of s at programs) (greatest_of 1 0) (greatest_of 1 0)

-- the node of a program, and that of all its blocks, which adds nothing to the cost of the first
abbrev pub program_node : (Part → ℕ) → ℕ → List SketchedBlock → Node
program_node at number bs = node_of (program number) (first_block at number (length bs) ++ at (blocks number) ∷ []) (sum_of 1 0) (greatest_of 1 1)

abbrev pub blocks_node : (Part → ℕ) → ℕ → List SketchedBlock → Node
blocks_node at number bs = node_of (blocks number) (listed (λ b. at (block number b)) (length bs)) (greatest_of 0 0) (greatest_of 1 0)

abbrev pub place_node : Sketch → (Part → ℕ) → ℕ → List ℕ → Node
place_node s at number channels = node_of (place number) (nodes_of s at channels) (sum_of 1 0) (greatest_of 1 0)

abbrev pub start_node : Sketch → (Part → ℕ) → ℕ → SketchedStart → Node
start_node s at number k = node_of (start number) (start_edges s at k) (start_cost k) (start_depth k)

-- the node of a block, of its passes, and of the blocks after it
abbrev pub block_node : Sketch → (Part → ℕ) → (program number : ℕ) → SketchedBlock → Node
block_node s at p number b =
    node_of (block p number) (at (passes p number) ∷ at (next p number) ∷ starts_of s at (only_last b.starts))
    (sum_of 1 (length (only_last b.starts))) (greatest_of 1 0)

abbrev pub passes_node : Sketch → (Part → ℕ) → (program number : ℕ) → SketchedBlock → Node
passes_node s at p number b =
    node_of (passes p number) (starts_of s at (before_last b.starts)) (sum_of b.passes (b.passes * length (before_last b.starts))) (greatest_of 1 0)

abbrev pub next_node : (Part → ℕ) → (program count number : ℕ) → SketchedBlock → Node
next_node at p count number b = node_of (next p number) (next_blocks at p count number b.next) (greatest_of 1 0) (greatest_of 1 0)

-- ** which nodes a sketch has

-- the blocks of a program
abbrev pub blocks_in : Sketch → ℕ → List SketchedBlock
blocks_in s p = read [] s.programs p

-- a part and its node
pub data IsPart (s : Sketch) (at : Part → ℕ) (handlers : ℕ) : Part → Node → Type 0 where
  of_whole : (i : ℕ) (k : SketchedChannel) → slice_get s.channels i ≡ Some k → IsPart s at handlers (whole i) (whole_node at i k)
  of_own : (i : ℕ) (k : SketchedChannel) → slice_get s.channels i ≡ Some k → IsPart s at handlers (own i) (own_node s at i k)
  of_stages : (i : ℕ) (k : SketchedChannel) → slice_get s.channels i ≡ Some k → IsPart s at handlers (stages i) (stages_node s at i k)
  of_connected : (i : ℕ) (k : SketchedChannel) → slice_get s.channels i ≡ Some k → IsPart s at handlers (connected i) (connected_node s at handlers i k)
  of_group : (i : ℕ) (ps : List ℕ) → slice_get s.groups i ≡ Some ps → IsPart s at handlers (group i) (group_node s at i ps)
  of_program : (i : ℕ) (bs : List SketchedBlock) → slice_get s.programs i ≡ Some bs → IsPart s at handlers (program i) (program_node at i bs)
  of_blocks : (i : ℕ) (bs : List SketchedBlock) → slice_get s.programs i ≡ Some bs → IsPart s at handlers (blocks i) (blocks_node at i bs)
  of_place : (i : ℕ) (cs : List ℕ) → slice_get s.paired i ≡ Some cs → IsPart s at handlers (place i) (place_node s at i cs)
  of_start : (i : ℕ) (k : SketchedStart) → slice_get s.starts i ≡ Some k → IsPart s at handlers (start i) (start_node s at i k)
  of_block : (p i : ℕ) (bs : List SketchedBlock) (b : SketchedBlock) → slice_get s.programs p ≡ Some bs → slice_get bs i ≡ Some b →
      IsPart s at handlers (block p i) (block_node s at p i b)
  of_passes : (p i : ℕ) (bs : List SketchedBlock) (b : SketchedBlock) → slice_get s.programs p ≡ Some bs → slice_get bs i ≡ Some b →
      IsPart s at handlers (passes p i) (passes_node s at p i b)
  of_next : (p i : ℕ) (bs : List SketchedBlock) (b : SketchedBlock) → slice_get s.programs p ≡ Some bs → slice_get bs i ≡ Some b →
      IsPart s at handlers (next p i) (next_node at p (length bs) i b)

-- the nodes of a sketch, each at the number of its part, and no others
pub record IsNumbered (s : Sketch) (at : Part → ℕ) (handlers : ℕ) (nodes : List Node) : Type 0 where
  pub there : (x : Part) (y : Node) → IsPart s at handlers x y → slice_get nodes (at x) ≡ Some y
  pub each : (k : ℕ) (y : Node) → slice_get nodes k ≡ Some y → (at y.part ≡ k) × IsPart s at handlers y.part y

-- ** what is reckoned with

abbrev pub edges_in : List Node → List (List ℕ)
edges_in nodes = map (λ (y : Node). y.edges) nodes

abbrev pub costs_in : List Node → List Rule
costs_in nodes = map (λ (y : Node). y.cost) nodes

abbrev pub depths_in : List Node → List Rule
depths_in nodes = map (λ (y : Node). y.depth) nodes

abbrev pub counts_in : List Node → List Bool
counts_in nodes = map (λ (y : Node). y.counts) nodes
