-- A pool that has the peers of the stock.
use Rattle.std.specs.Prelude.{◌≡◌, List, map}
use Rattle.ui_machine.specs.State.Peers.{PeerState}
use Rattle.native_peers.specs.Moves.{Relation}
use Rattle.native_peers.specs.Pool.{relations, seen}
use Rattle.native_peers.specs.Seen.{SameRelations}
use Rattle.native_peers.specs.declared.entries.NamedPeer.{NamedPeer}
use Rattle.host_peers.specs.Stock.{Stocked, new_peer, relations_of}

-- the peers of a pool are these, as they are made, and each may do what one of its kind may
pub record AreStocked {I : Type 0} {Held : I → Type 0} (state_of : NamedPeer I Held → PeerState) (moves_of : NamedPeer I Held → Relation) (peers : List (NamedPeer I Held)) (kept : List Stocked) : Type 0 where
  pub seen_so : seen state_of peers ≡ map new_peer kept
  pub same : SameRelations (relations moves_of peers) (relations_of kept)
