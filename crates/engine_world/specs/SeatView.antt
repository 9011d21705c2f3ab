-- What the engine knows of the peers of a pool, as the machine's peers: which calls and faults one has had, and what it keeps, it does not know.
use Rattle.std.specs.Prelude.{◌≡◌, ℕ, Bool, IsTrue, List, [], None, String, map, string_bytes}
use Rattle.std.specs.Global.{Global}
use Rattle.std.specs.BTreeMap.{BTreeMap, get_by_text}
use Rattle.std.specs.List.{AllByRecursion}
use Rattle.ui_machine.specs.Definition.Signals.{Method}
use Rattle.ui_machine.specs.Definition.Types.{GType}
use Rattle.ui_machine.specs.Seq.{read, write}
use Rattle.ui_machine.specs.State.Peers.{Peer, PeerState, closed_peer, no_peer, peer_number}
use Rattle.g_values.specs.View.{IsKnown, kind_view}
use Rattle.definition_format.specs.Meaning.{IsKnownKind}
use Rattle.instance_tables.specs.Store.{id_of}
use Rattle.peer_shapes.specs.MethodViews.{is_plain_shape}
use Rattle.peer_shapes.specs.declared.methods.MethodRef.{MethodRef}
use Rattle.engine_world.specs.declared.seats.Seat.{Seat}
use Rattle.engine_world.specs.declared.seats.SeatRef.{SeatRef}

-- what is known of a peer's state
abbrev pub known_state : List Method → Bool → PeerState
known_state shape is_open = record { shape = shape; is_open = is_open; calls = 0; faults = 0; values = [] }

-- a peer that no object has got
abbrev pub new_peer : List ℕ → List Method → Bool → Peer
new_peer name shape is_open = record { name = name; state = known_state shape is_open; holder = None }

-- a seat as a peer
abbrev pub seated : Seat → Peer
seated s = record { name = string_bytes s.name; state = known_state s.shape.value s.is_open; holder = id_of s.holder }

-- what is kept gives each name the number of its peer
abbrev pub AreNumbers : BTreeMap (String Global) ℕ → List Peer → Type 0
AreNumbers numbers peers = (name : List ℕ) → get_by_text numbers name ≡ peer_number peers name

-- a seat that is lent
abbrev pub lent_view : SeatRef → Peer
lent_view s = record { name = s.name.now; state = known_state s.shape.now s.is_open; holder = id_of s.holder }

-- all kinds of a peer's methods are plain
abbrev pub HasPlainShape : Peer → Type 0
HasPlainShape p = IsTrue (is_plain_shape p.state.shape)

-- the kinds of a method are known whatever the types are
abbrev pub HasKnownKinds : List GType → MethodRef → Type 0
HasKnownKinds types m = AllByRecursion (IsKnownKind types) (map kind_view m.params.now) × IsKnown types m.result

-- the peers after one was closed
abbrev pub closed_at : List Peer → ℕ → List Peer
closed_at peers number = write no_peer peers number (closed_peer (read no_peer peers number))
