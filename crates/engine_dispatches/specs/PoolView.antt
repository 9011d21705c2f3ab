-- What a pool of boxes is to the machine: its peers, and what they may reply.
use Rattle.std.specs.Prelude.{◌≡◌, ◌&&◌, ℕ, Bool, cond, not, List, [], ◌∷◌, None, Some, Option, IsSomeAnd, IsTrue, map, slice_get, slice_set}
use Rattle.std.specs.Option.{option_map_or}
use Rattle.ui_machine.specs.Definition.{Definition}
use Rattle.ui_machine.specs.Definition.Signals.{Method}
use Rattle.ui_machine.specs.Definition.Values.{Value}
use Rattle.ui_machine.specs.Rules.Programs.{all_fit}
use Rattle.ui_machine.specs.Rules.Transform.{kind_fits}
use Rattle.ui_machine.specs.Runs.{Allowed, Fits}
use Rattle.ui_machine.specs.Seq.{read}
use Rattle.ui_machine.specs.State.Config.{Config, World, is_asked}
use Rattle.ui_machine.specs.State.Peers.{Peer, PeerState, Question, Reply, no_peer}
use Rattle.ui_machine.specs.Steps.{question}
use Rattle.law_peers.specs.Forgetting.{forgotten_state}
use Rattle.law_peers.specs.PeerLaws.{replied_in}
use Rattle.law_typing.specs.Verdict.Accepted.{Each}
use Rattle.native_peers.specs.Moves.{closed}
use Rattle.native_peers.specs.Seen.{Relations, Seen}

-- ** peers

-- what is seen of a peer
abbrev pub seen_of : Peer → Seen
seen_of p = record { name = p.name; state = p.state }

-- the same without what the peer counts and keeps
abbrev pub forgotten_seen : Seen → Seen
forgotten_seen s = record s { state = forgotten_state s.state }

-- peers with these holders, as they are seen in the pool
abbrev pub with_seen : List Seen → List Peer → List Peer
with_seen [] peers = []
with_seen (s ∷ pool) [] = record { name = s.name; state = s.state; holder = None } ∷ with_seen pool []
with_seen (s ∷ pool) (p ∷ peers) = record { name = s.name; state = s.state; holder = p.holder } ∷ with_seen pool peers

-- a world with its peers as they are seen in the pool
abbrev pub world_at : List Seen → World → World
world_at pool w = record w { peers = with_seen pool w.peers }

-- a world knows of each peer of the pool its name, its methods, and whether it is open
abbrev pub Knows : World → List Seen → Type 0
Knows w pool = map forgotten_seen pool ≡ map seen_of w.peers

-- the pool once the peer of a number is closed, if one is to be
abbrev pub closed_in : Option ℕ → List Seen → List Seen
closed_in None pool = pool
closed_in (Some k) pool = option_map_or (λ (s : Seen). slice_set pool k (record s { state = closed s.state })) (slice_get pool k) pool

-- ** replies

-- what the peer that is asked may do, by the relations of a pool
abbrev pub relation_of : Relations → Question → Option Value → PeerState → Type 0
relation_of may q answer state = may q.peer q.state q.method q.args answer state

-- a reply that the peer of the pool may give, and that keeps to what every peer keeps to
pub record GivenBy (may : Relations) (reply : Reply) : Type 0 where
  pub allowed : Allowed (relation_of may) reply
  pub fits : (d : Definition) → Fits d reply

-- by some replies of the pool
pub record Replied (may : Relations) (P : List Reply → Type 0) : Type 0 where
  pub replies : List Reply
  pub given : Each (GivenBy may) replies
  pub so : P replies

-- ** where no memory is found

-- the peer that a configuration asks has replied, and then no memory was found for the line of its call
pub record OneMore (d : Definition) (may : Relations) (at : Config) (left : List Peer) : Type 0 where
  pub reply : Reply
  pub given : GivenBy may reply
  pub asks : question d at ≡ Some reply.question
  pub peers : replied_in at.world.peers reply ≡ left

-- the peers where no memory was found: those of the configuration, each the object's that has got it there, or one has replied once more
pub data IsLeft (d : Definition) (may : Relations) (at : Config) (left : List Peer) : Type 0 where
  as_shown : at.world.peers ≡ left → IsLeft d may at left
  one_more : OneMore d may at left → IsLeft d may at left

-- ** what may be asked and closed

-- a method takes these arguments, of objects of some classes
abbrev pub Takes : Definition → Option Method → List Value → Type 0
Takes d None args = ⊥
Takes d (Some m) args = (classes : ℕ → Option ℕ) × IsTrue (all_fit (kind_fits classes d.types) args m.params)

-- the peer of a number is there and open
abbrev pub IsOpen : List Seen → ℕ → Type 0
IsOpen pool k = IsSomeAnd (slice_get pool k) (λ s. IsTrue s.state.is_open)

-- it is open, and its method takes these arguments, of objects of some classes
abbrev pub MayBeAsked : Definition → List Seen → ℕ → ℕ → List Value → Type 0
MayBeAsked d pool k method args = IsSomeAnd (slice_get pool k) (λ s. IsTrue s.state.is_open × Takes d (slice_get s.state.shape method) args)

-- so it is with the types of some definition: the kinds of methods are plain, so that it matters not which
pub record IsAskable (pool : List Seen) (k method : ℕ) (args : List Value) : Type 0 where
  pub definition : Definition
  pub may : MayBeAsked definition pool k method args

-- whether a peer is open in the pool, while a world knows it to be closed
abbrev pub is_due : World → List Seen → ℕ → Bool
is_due w pool k = (read (seen_of no_peer) pool k).state.is_open && not (is_asked w k)

-- the peer of this number if that is so
abbrev pub due : World → List Seen → Option ℕ → Option ℕ
due w pool None = None
due w pool (Some k) = cond (is_due w pool k) (Some k) None
