-- What a contract sees of a pool.
use Rattle.std.specs.Prelude.{◌++◌, ◌∷◌, ◌≡◌, List, Option, Some, [], map, slice_get, string_bytes, ℕ}
use Rattle.ui_machine.specs.Definition.Names.{place_named}
use Rattle.ui_machine.specs.State.Peers.{PeerState}
use Rattle.native_peers.specs.Moves.{Relation}
use Rattle.native_peers.specs.Seen.{Relations, Seen}
use Rattle.native_peers.specs.declared.entries.NamedPeer.{NamedPeer}
use Rattle.native_peers.specs.declared.pools.PeerPool.{PeerPool}

-- the peers in the order of adding
abbrev pub entries : {I : Type 0} {Held : I → Type 0} → PeerPool I Held → List (NamedPeer I Held)
entries pool = pool.peers.items

-- their names
abbrev pub names : {I : Type 0} {Held : I → Type 0} → List (NamedPeer I Held) → List (List ℕ)
names peers = map (λ p. string_bytes p.name) peers

-- the number of the first peer of a name
abbrev pub number_of : {I : Type 0} {Held : I → Type 0} → List (NamedPeer I Held) → List ℕ → Option ℕ
number_of peers name = place_named (λ p. string_bytes p.name) peers name

-- what is seen of a peer, where this is the state of its box
abbrev pub seen_one : {I : Type 0} {Held : I → Type 0} → PeerState → NamedPeer I Held → Seen
seen_one state peer = record { name = string_bytes peer.name; state = state }

-- what is seen of each, where the state of a box is given by this
abbrev pub seen : {I : Type 0} {Held : I → Type 0} → (NamedPeer I Held → PeerState) → List (NamedPeer I Held) → List Seen
seen state_of peers = map (λ p. seen_one (state_of p) p) peers

-- what each may do, where the relation of a box is given by this
abbrev pub relations : {N : Type 0} → (N → Relation) → List N → Relations
relations {N} moves_of peers k s method args answer t = (p : N) × (slice_get peers k ≡ Some p) × moves_of p s method args answer t

-- new has one more at its end, of which P holds
abbrev pub AppendsOne : {X : Type 0} → (X → Type 0) → List X → List X → Type 0
AppendsOne {X} P old new = (x : X) × (new ≡ old ++ x ∷ []) × P x
