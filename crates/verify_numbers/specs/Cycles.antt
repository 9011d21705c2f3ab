-- Cycles of nodes as cycles of the graph.
use Rattle.std.specs.Prelude.{◌≡◌, ◌<◌, ℕ, true, List, [], ◌∷◌, length, map, Option, None, Some, slice_get}
use Rattle.verify_order.specs.Graphs.{IsCycle}
use Rattle.law_typing.specs.Graph.{Graph}
use Rattle.law_typing.specs.Graph.Channels.{Cause, Channel, Link, constructed, same_channel}
use Rattle.law_typing.specs.Graph.Channels as causes
use Rattle.law_typing.specs.Graph.Ranks.{is_cycle}
use Rattle.law_typing.specs.Laws.WellRead.{no_two}
use Rattle.verify_sketches.specs.Sketches.{IsSketch, Sketch, channels_in}
use Rattle.verify_sketches.specs.Numbered.{IsNumbered, Node, Part, edges_in, whole, own, stages, connected, group, program, blocks, place, start, block, passes, next}

-- the channel of a number; each number that is asked for has one
abbrev pub channel_or : Option Channel → Channel
channel_or None = constructed 0
channel_or (Some c) = c

abbrev pub channel_numbered : Graph → ℕ → Channel
channel_numbered g number = channel_or (slice_get (channels_in g) number)

-- a link by this, in place of what led on from it before
abbrev pub by : Cause → Link → Link
by cause link = record link { by = cause }

-- The links of the parts of a path from a link on: each channel begins one, and what leads on from it is a binding, unless a program comes
-- before the next one.
abbrev pub links_after : Graph → Link → List Part → List Link
links_after g link [] = link ∷ []
links_after g link (whole i ∷ more) = link ∷ links_after g (record { from = channel_numbered g i; by = causes.binding }) more
links_after g link (program p ∷ more) = links_after g (by (causes.program p) link) more
links_after g link (own i ∷ more) = links_after g link more
links_after g link (stages i ∷ more) = links_after g link more
links_after g link (connected i ∷ more) = links_after g link more
links_after g link (group i ∷ more) = links_after g link more
links_after g link (blocks i ∷ more) = links_after g link more
links_after g link (place i ∷ more) = links_after g link more
links_after g link (start i ∷ more) = links_after g link more
links_after g link (block p i ∷ more) = links_after g link more
links_after g link (passes p i ∷ more) = links_after g link more
links_after g link (next p i ∷ more) = links_after g link more

-- the links of a path that begins with a channel
abbrev pub links_of : Graph → ℕ → List Part → List Link
links_of g channel more = links_after g (record { from = channel_numbered g channel; by = causes.binding }) more

-- these parts have nodes, each at its number
abbrev pub HaveNodes : (Part → ℕ) → List Node → List Part → Type 0
HaveNodes at nodes parts = (i : ℕ) (x : Part) → slice_get parts i ≡ Some x → (y : Node) × (slice_get nodes (at x) ≡ Some y) × (y.part ≡ x)

-- A cycle of nodes that begins with the node of a channel is a cycle of the graph, in which no channel is twice.
abbrev pub CyclesAreTold : Type 0
CyclesAreTold =
    (g : Graph) (s : Sketch) (at : Part → ℕ) (nodes : List Node) (channel : ℕ) (parts : List Part) → IsSketch g s →
    IsNumbered s at g.most_handlers nodes → HaveNodes at nodes (whole channel ∷ parts) →
    IsCycle (edges_in nodes) (map at (whole channel ∷ parts)) →
    (is_cycle g (links_of g channel parts) ≡ true)
    × (no_two same_channel (map (λ (l : Link). l.from) (links_of g channel parts)) ≡ true)

-- each cycle of nodes has the node of a channel
abbrev pub CyclesHaveChannels : Type 0
CyclesHaveChannels =
    (g : Graph) (s : Sketch) (at : Part → ℕ) (handlers : ℕ) (nodes : List Node) (cycle : List ℕ) → IsSketch g s →
    IsNumbered s at handlers nodes →
    IsCycle (edges_in nodes) cycle → (i channel : ℕ) × (slice_get cycle i ≡ Some (at (whole channel))) × (channel < length s.channels)
