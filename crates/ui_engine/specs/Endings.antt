-- How the peers end that objects have got.
use Rattle.std.specs.Prelude.{ℕ, zero, suc, Bool, cond, is_some, List, [], ◌∷◌, Option, None, Some, take}
use Rattle.ui_machine.specs.Rules.Disposal.{peer_of}
use Rattle.ui_machine.specs.Seq.{read}
use Rattle.ui_machine.specs.State.Objects.{Objects, most_identities}
use Rattle.ui_machine.specs.State.Peers.{Peer, no_peer}
use Rattle.native_peers.specs.Moves.{closed}
use Rattle.native_peers.specs.Seen.{Seen}

-- whether an object has got the peer of a number
abbrev pub is_taken : List Peer → ℕ → Bool
is_taken peers number = is_some (read no_peer peers number).holder

-- a peer of a pool, closed if so
abbrev pub closed_if : Bool → Seen → Seen
closed_if b s = cond b (record s { state = closed s.state }) s

-- a pool whose peer of a number is closed if so
abbrev pub closed_at_if : Bool → ℕ → List Seen → List Seen
closed_at_if b k [] = []
closed_at_if b zero (s ∷ pool) = closed_if b s ∷ pool
closed_at_if b (suc k) (s ∷ pool) = s ∷ closed_at_if b k pool

-- a pool whose peers are closed that objects have got
abbrev pub taken_closed : List Peer → List Seen → List Seen
taken_closed [] pool = pool
taken_closed (p ∷ peers) [] = []
taken_closed (p ∷ peers) (s ∷ pool) = closed_if (is_some p.holder) s ∷ taken_closed peers pool

-- ** one object after the other

-- a pool whose peer of this number is closed, if there is one and an object has got it
abbrev pub closed_at : List Peer → Option ℕ → List Seen → List Seen
closed_at peers None pool = pool
closed_at peers (Some number) pool = closed_at_if (is_taken peers number) number pool

-- a pool after the peers of these objects are closed, from the first object to the last
abbrev pub closed_in_order : List Peer → Objects → List Seen → List Seen
closed_in_order peers [] pool = pool
closed_in_order peers (o ∷ os) pool = closed_in_order peers os (closed_at peers (peer_of o) pool)

-- the objects whose identities a number of 64 bits has
abbrev pub identified : Objects → Objects
identified os = take most_identities os
