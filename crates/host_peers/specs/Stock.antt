-- Which peers the host makes for a definition.
use Rattle.std.specs.Prelude.{ℕ, Bool, cond, List, [], ◌∷◌, ◌++◌, map, codes, is_some, Option, None, Some, option_and_then, slice_get}
use Rattle.std.specs.List.{filter, flat_map}
use Rattle.ui_machine.specs.Definition.{Definition}
use Rattle.ui_machine.specs.Definition.Names.{place_named, same_name}
use Rattle.ui_machine.specs.Definition.Places.{Place}
use Rattle.ui_machine.specs.Definition.Signals.{Shape}
use Rattle.ui_machine.specs.Rules.Construction.{nearest_shape}
use Rattle.ui_machine.specs.Rules.Transform.{same_bool}
use Rattle.ui_machine.specs.State.Peers.{PeerState}
use Rattle.law_peers.specs.Needs.{objects, prototypes}
use Rattle.native_peers.specs.Moves.{Relation}
use Rattle.native_peers.specs.Pool.{relations}
use Rattle.native_peers.specs.Seen.{Relations, Seen}
use Rattle.host_peers.specs.Screens.{Screens, new_screen}
use Rattle.host_peers.specs.Tallies.{Tallies, new_tally}
use Rattle.host_peers.specs.declared.stock_lists.StockKind.{StockKind}
use Rattle.host_peers.specs.declared.stock_lists.StockKind.TheVariants as kinds
use Rattle.host_peers.specs.declared.stock_lists.StockPeer.{StockPeer}

-- a peer to be made: its name and its kind
pub record Stocked : Type 0 where
  pub name : List ℕ
  pub kind : StockKind

abbrev pub stock_view : StockPeer → Stocked
stock_view p = record { name = p.name.now; kind = p.kind }

-- the kind that the name of a shape says, if it says one
abbrev pub kind_named : List ℕ → Option StockKind
kind_named name = cond (same_name name (codes "Screen")) (Some kinds.Screen) (cond (same_name name (codes "Tally")) (Some kinds.Tally) None)

-- the kind that the name of the shape of a class says
abbrev pub kind_of : Definition → ℕ → Option StockKind
kind_of d class = option_and_then (λ (s : Shape). kind_named s.name) (option_and_then (slice_get d.shapes) (nearest_shape d class))

-- one of a kind for each name, and none where there is no kind
abbrev pub all_of : Option StockKind → List (List ℕ) → List Stocked
all_of None names = []
all_of (Some kind) names = map (λ name. record { name = name; kind = kind }) names

-- the peers of a place
abbrev pub stock_at : Definition → Place → List Stocked
stock_at d p = all_of (kind_of d p.class) p.peers

-- the peers of a definition: those of prototypes first, then those of objects
abbrev pub stock_of : Definition → List Stocked
stock_of d = flat_map (stock_at d) (prototypes d) ++ flat_map (stock_at d) (objects d)

-- the peers of those of some places that are prototypes, or that are objects
abbrev pub stock_of_kind : Definition → Bool → List Place → List Stocked
stock_of_kind d is_prototype places = flat_map (stock_at d) (filter (λ (p : Place). same_bool p.is_prototype is_prototype) places)

-- ** their pool

-- a peer of a kind, as it is made
abbrev pub new_state : StockKind → PeerState
new_state kinds.Screen = new_screen
new_state kinds.Tally = new_tally

abbrev pub new_peer : Stocked → Seen
new_peer s = record { name = s.name; state = new_state s.kind }

-- one more peer, unless one of its name is there
abbrev pub with_peer : List Seen → Seen → List Seen
with_peer peers p = cond (is_some (place_named (λ (q : Seen). q.name) peers p.name)) peers (peers ++ p ∷ [])

-- one more peer to be made, unless one of its name is there
abbrev pub with_stocked : List Stocked → Stocked → List Stocked
with_stocked kept s = cond (is_some (place_named (λ (t : Stocked). t.name) kept s.name)) kept (kept ++ s ∷ [])

-- more behind others, of each name the first
abbrev pub kept_after : List Stocked → List Stocked → List Stocked
kept_after kept [] = kept
kept_after kept (s ∷ stock) = kept_after (with_stocked kept s) stock

-- the peers that the host makes for a definition
abbrev pub kept_of : Definition → List Stocked
kept_of d = kept_after [] (stock_of d)

-- what is seen of their pool
abbrev pub stocked_pool : Definition → List Seen
stocked_pool d = map new_peer (kept_of d)

-- ** what they do

-- what a peer of a kind may do
abbrev pub moves_of : StockKind → Relation
moves_of kinds.Screen = Screens
moves_of kinds.Tally = Tallies

-- what some peers may do
abbrev pub relations_of : List Stocked → Relations
relations_of kept = relations (λ (s : Stocked). moves_of s.kind) kept

-- what each peer may do that the host makes for a definition: a screen shows, and a tally adds
abbrev pub stocked_relations : Definition → Relations
stocked_relations d = relations_of (kept_of d)
