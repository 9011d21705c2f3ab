-- What is so of objects and of peers, and stays so by each change of them that a step makes.
use Rattle.std.proofs.Common.{◌≡◌, ℕ, suc, true, false, List, [], ◌∷◌, ◌++◌, length, Option, None, Some}
use Rattle.std.specs.Prelude.{slice_get}
use Rattle.ui_machine.specs.Definition.{Definition}
use Rattle.ui_machine.specs.Rules.Construction.{lent}
use Rattle.ui_machine.specs.Rules.Disposal.{objects_disposed, peer_of}
use Rattle.ui_machine.specs.Seq.{write}
use Rattle.ui_machine.specs.State.Objects.{Object, Objects, living, put}
use Rattle.ui_machine.specs.State.Peers.{Peer, PeerState, closed_peer, no_peer}
use Rattle.law_peers.specs.PeerLaws.{peer_in}
use Rattle.law_held_peers.proofs.Changes.{SamePeers}

-- the peers after an object was disposed: its peer, if it has one, was closed before, or is closed with it
pub data AfterDispose (os : Objects) (ps : List Peer) (id : ℕ) (qs : List Peer) : Type 0 where
  has_none : peer_of (living os id) ≡ None → qs ≡ ps → AfterDispose os ps id qs
  was_closed : (n : ℕ) (p : Peer) → peer_of (living os id) ≡ Some n → slice_get ps n ≡ Some p → p.state.is_open ≡ false → qs ≡ ps → AfterDispose os ps id qs
  closes : (n : ℕ) (p : Peer) → peer_of (living os id) ≡ Some n → slice_get ps n ≡ Some p → qs ≡ write no_peer ps n (closed_peer p) → AfterDispose os ps id qs

pub record Keeping : Type 1 where
  pub Holds : Objects → List Peer → Type 0
  -- an object is changed but for its peer, and whether it is disposed
  pub changes : (os new : Objects) (ps : List Peer) → SamePeers os new → Holds os ps → Holds new ps
  -- one is disposed, and finalised
  pub disposes : (d : Definition) (os : Objects) (ps : List Peer) (id : ℕ) (qs : List Peer) → AfterDispose os ps id qs → Holds os ps → Holds (objects_disposed d id os) qs
  pub finalises : (d : Definition) (os : Objects) (ps : List Peer) (id : ℕ) (qs : List Peer) → AfterDispose os ps id qs → Holds os ps →
      Holds (put (objects_disposed d id os) id None) qs
  -- a peer that is open replies
  pub replies : (os : Objects) (ps : List Peer) (n : ℕ) (p : Peer) (s : PeerState) → slice_get ps n ≡ Some p → (peer_in ps n).state.is_open ≡ true →
      Holds os ps → Holds os (write p ps n (record p { state = s }))
  -- an object is made, and gets its peer
  pub makes : (os : Objects) (ps : List Peer) (o : Object) → o.disposed ≡ false → (peer : Option ℕ) → o.peer ≡ peer → Holds os ps →
      Holds (os ++ Some o ∷ []) (lent peer (suc (length os)) ps)
