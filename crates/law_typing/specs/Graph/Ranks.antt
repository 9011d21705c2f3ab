-- Edges between the nodes of a graph, and ranks: how long the chains of edges are that end in a node.
use Rattle.std.specs.Prelude.{◌≡◌, ℕ, suc, Bool, true, false, cond, ◌&&◌, nat_eq, List, [], ◌∷◌, ◌++◌, length, map, Option}
use Rattle.std.specs.List.{filter, flat_map, list_any}
use Rattle.ui_machine.specs.Seq.{read}
use Rattle.law_typing.specs.Graph.Channels.{Channel, same_channel, Cause, Link}
use Rattle.law_typing.specs.Graph.Channels as causes
use Rattle.law_typing.specs.Graph.{Graph, Raised, Start, nothing, raises, makes, thaws, Stretch}
use Rattle.law_typing.specs.Graph.Tables.{Table, entry, greatest, settled, same_table}

-- ** nodes

-- the node of a channel among these pairs: of a paired property the first of the pair
abbrev pub node_in : List (Channel × Channel) → Channel → Channel
node_in [] c = c
node_in (p ∷ pairs) c = cond (same_channel p.1 c) p.0 (node_in pairs c)

abbrev pub node : Graph → Channel → Channel
node g c = node_in g.pairs c

-- ** edges

-- all programs that run at a channel
abbrev pub running_at : Raised → List ℕ
running_at r = r.class_handler ++ (r.handlers ++ r.connectable)

-- the channels that an instruction may start
abbrev pub started : Start → List Channel
started nothing = []
started (raises cs) = cs
started (makes cs) = cs
started (thaws css) = flat_map (λ cs. cs) css

-- the channels that a program may start
abbrev pub started_by : Graph → ℕ → List Channel
started_by g program = flat_map (λ (s : Stretch). flat_map started s.starts) (read [] g.programs program)

-- an edge from a node to another, and what makes it
pub record Arrow : Type 0 where
  pub from : Channel
  pub by : Cause
  pub to : Channel

abbrev pub arrow : Graph → Channel → Cause → Channel → Arrow
arrow g from by to = record { from = node g from; by = by; to = node g to }

-- those that a program makes as it runs at a channel
abbrev pub arrows_by : Graph → Channel → ℕ → List Arrow
arrows_by g c program = map (arrow g c (causes.program program)) (started_by g program)

-- whether a channel is one of the graph
abbrev pub is_raised : Graph → Channel → Bool
is_raised g c = list_any (λ (r : Raised). same_channel r.channel c) g.raised

-- those from a channel: what runs there may start another, or a binding leads to it one way
abbrev pub arrows_from : Graph → Raised → List Arrow
arrows_from g r = flat_map (arrows_by g r.channel) (running_at r) ++ map (arrow g r.channel causes.binding) (filter (is_raised g) r.targets)

-- all edges
abbrev pub arrows : Graph → List Arrow
arrows g = flat_map (arrows_from g) g.raised

-- ** cycles

abbrev pub same_cause : Cause → Cause → Bool
same_cause (causes.program p) (causes.program q) = nat_eq p q
same_cause causes.binding causes.binding = true
same_cause _ _ = false

-- whether there is an edge from one node to another that this makes
abbrev pub is_edge : List Arrow → Channel → Cause → Channel → Bool
is_edge edges from by to = list_any (λ (a : Arrow). same_channel a.from from && (same_cause a.by by && same_channel a.to to)) edges

-- whether each of these nodes has an edge to the next one, and the last one to `first`
abbrev pub leads_to : List Arrow → Channel → List Link → Bool
leads_to edges first [] = true
leads_to edges first (l ∷ []) = is_edge edges l.from l.by first
leads_to edges first (l ∷ m ∷ more) = is_edge edges l.from l.by m.from && leads_to edges first (m ∷ more)

-- whether these nodes and what makes their edges are a cycle
abbrev pub is_cycle_of : List Arrow → List Link → Bool
is_cycle_of edges [] = false
is_cycle_of edges (l ∷ more) = leads_to edges l.from (l ∷ more)

abbrev pub is_cycle : Graph → List Link → Bool
is_cycle g links = is_cycle_of (arrows g) links

-- no node leads back to itself
abbrev pub IsAcyclic : Graph → Type 0
IsAcyclic g = (links : List Link) → is_cycle g links ≡ false

-- ** ranks

-- one more than the rank where an edge begins
abbrev pub above : Table → Arrow → ℕ
above ranks a = suc (entry ranks a.from)

-- the greatest of these over the edges to a node
abbrev pub rank_by : List Arrow → Table → Channel → ℕ
rank_by edges ranks n = greatest (above ranks) (filter (λ (a : Arrow). same_channel a.to n) edges)

-- the node of each channel, in the order of the report; a pair is there twice
abbrev pub nodes : Graph → List Channel
nodes g = map (λ (r : Raised). node g r.channel) g.raised

-- the rank of each of some nodes, by those of the others
abbrev pub ranked : List Arrow → List Channel → Table → Table
ranked edges ns ranks = map (λ n. (n, rank_by edges ranks n)) ns

-- the ranks are those of the graph: each is the number of edges of the longest chain that ends in its node
abbrev pub IsRanking : Graph → Table → Type 0
IsRanking g ranks = ranks ≡ ranked (arrows g) (nodes g) ranks

-- whether an edge leads from a node
abbrev pub leads : List Arrow → Channel → Bool
leads edges n = list_any (λ (a : Arrow). same_channel a.from n) edges

-- the ranks, if there is no cycle: the edges of a chain begin at different nodes, so that it has no more of them than nodes lead on
abbrev pub ranks_by : List Arrow → List Channel → Option Table
ranks_by edges ns = settled same_table (suc (length (filter (leads edges) ns))) (ranked edges ns) (map (λ n. (n, 0)) ns)

abbrev pub ranks : Graph → Option Table
ranks g = ranks_by (arrows g) (nodes g)
