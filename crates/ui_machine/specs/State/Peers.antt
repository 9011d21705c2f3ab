-- Peers: each has a shape, is open or closed, and is held by one object at most.
use Rattle.std.specs.Prelude.{Bool, List, None, Option, Some, [], cond, false, is_none, slice_get, ℕ, ◌∷◌}
use Rattle.ui_machine.specs.Definition.Names.{place_named}
use Rattle.ui_machine.specs.Definition.Signals.{Method}
use Rattle.ui_machine.specs.Definition.Values.{Value}

-- the abstract state of a peer
pub record PeerState : Type 0 where
  pub shape : List Method
  pub is_open : Bool
  pub calls : ℕ
  pub faults : ℕ
  pub values : List Value

-- a peer of the pool
pub record Peer : Type 0 where
  pub name : List ℕ
  pub state : PeerState
  pub holder : Option ℕ  -- the object that got it

-- what an open peer is asked: a method, by its number in the peer's shape, with arguments
pub record Question : Type 0 where
  pub peer : ℕ  -- its number in the pool
  pub state : PeerState  -- in which it is asked
  pub method : ℕ
  pub args : List Value

-- what the peer that was asked gives
pub record Reply : Type 0 where
  pub question : Question
  pub answer : Option Value  -- None is a fault
  pub state : PeerState  -- in which it is from then on

-- the default where a peer is not there
abbrev pub no_peer : Peer
no_peer = record { name = []; state = record { shape = []; is_open = false; calls = 0; faults = 0; values = [] }; holder = None }

-- a peer that is closed
abbrev pub closed_peer : Peer → Peer
closed_peer p = record p { state = record p.state { is_open = false } }

-- ** who has which

-- the number of a peer in the pool
abbrev pub peer_number : List Peer → List ℕ → Option ℕ
peer_number peers name = place_named (λ (p : Peer). p.name) peers name

-- whether a peer is there that no object has got
abbrev pub is_left : Option Peer → Bool
is_left None = false
is_left (Some p) = is_none p.holder

-- this peer if it is left, or else the other
abbrev pub if_left : List Peer → Option ℕ → Option ℕ → Option ℕ
if_left peers None other = other
if_left peers (Some number) other = cond (is_left (slice_get peers number)) (Some number) other

-- the first of these peers that no object has got
abbrev pub first_left : List Peer → List (List ℕ) → Option ℕ
first_left peers [] = None
first_left peers (name ∷ names) = if_left peers (peer_number peers name) (first_left peers names)

-- ** methods

-- a method of a peer by its number
abbrev pub method_of : Peer → ℕ → Option Method
method_of p method = slice_get p.state.shape method

-- the number of the method of this name
abbrev pub method_number : Peer → List ℕ → Option ℕ
method_number p name = place_named (λ (m : Method). m.name) p.state.shape name
