-- Peers by their numbers, whatever holds them.
use Rattle.std.specs.Prelude.{◌≡◌, List, Option, Some, slice_get, slice_set, ℕ}
use Rattle.ui_machine.specs.Definition.Values.{Value}
use Rattle.ui_machine.specs.State.Peers.{PeerState}
use Rattle.native_peers.specs.Moves.{Keeps, Relation, SameMoves, closed}

-- what is seen of a peer
pub record Seen : Type 0 where
  pub name : List ℕ
  pub state : PeerState

-- what each may do, by its number
abbrev pub Relations : Type 1
Relations = ℕ → Relation

-- the peer of a number was asked, and gave this answer; the others are as they were
pub record Asks (k : ℕ) (old new : List Seen) (relations : Relations) (method : ℕ) (args : List Value) (answer : Option Value) : Type 0 where
  pub peer : Seen
  pub after : PeerState
  pub at : slice_get old k ≡ Some peer
  pub moved : relations k peer.state method args answer after
  pub keeps : Keeps method answer peer.state after
  pub new_state : new ≡ slice_set old k (record peer { state = after })

-- it was closed; the others are as they were
pub record ClosesAt (k : ℕ) (old new : List Seen) : Type 0 where
  pub peer : Seen
  pub at : slice_get old k ≡ Some peer
  pub new_state : new ≡ slice_set old k (record peer { state = closed peer.state })

-- each may do what it might before
abbrev pub SameRelations : Relations → Relations → Type 0
SameRelations old new = (k : ℕ) → SameMoves (old k) (new k)
