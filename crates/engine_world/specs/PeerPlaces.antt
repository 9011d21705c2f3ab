-- Which peer the object of a place gets.
use Rattle.std.specs.Prelude.{◌≡◌, ◌∷◌, ℕ, Bool, List, None, Option, Some, Vec, [], IsSomeAnd, false, map, slice_get, take, true}
use Rattle.std.specs.Global.{Global}
use Rattle.ui_machine.specs.declared.arm.Arm.TheVariants as arms
use Rattle.ui_machine.specs.Definition.{Definition}
use Rattle.ui_machine.specs.Definition.Lookups.{place_at}
use Rattle.ui_machine.specs.Definition.Places.{Place}
use Rattle.ui_machine.specs.Outcome.{Answer, known, ◌>>=◌}
use Rattle.ui_machine.specs.Rules.Build.{peer_for}
use Rattle.ui_machine.specs.Seq.{read}
use Rattle.ui_machine.specs.State.Config.{World}
use Rattle.ui_machine.specs.State.Peers.{Peer, first_left, if_left, peer_number}
use Rattle.engine_world.specs.declared.object_peers.NewPeer.{NewPeer}
use Rattle.engine_world.specs.declared.object_peers.NewPeer.TheVariants as news

-- the peer that the object at a place of the build has for its own
abbrev pub own_peer : Definition → World → (place : ℕ) → Answer (Option ℕ)
own_peer d w place = known arms.Code (place_at d place) >>= λ (p : Place). peer_for d w p

-- whether there is a peer for a new object, if it wants one
abbrev pub is_there : NewPeer → Bool
is_there news.NotWanted = true
is_there (news.Left number) = true
is_there news.NoneLeft = false

-- the peer that it takes
abbrev pub taken : NewPeer → Option ℕ
taken news.NotWanted = None
taken (news.Left number) = Some number
taken news.NoneLeft = None

-- of each place, so many of its peers from the first one on are not left: no object has to look at them again
abbrev pub AreGot : Definition → List Peer → List ℕ → Type 0
AreGot d peers got = (place : ℕ) (p : Place) → slice_get d.places place ≡ Some p → first_left peers (take (read 0 got place) p.peers) ≡ None

-- the numbers of peers, as a place names them
abbrev pub Numbered : List Peer → List (List ℕ) → List (Option ℕ) → Type 0
Numbered peers names numbers = numbers ≡ map (peer_number peers) names

-- of each place, the numbers of its peers
abbrev pub AreNumbered : Definition → List Peer → List (Vec (Option ℕ) Global) → Type 0
AreNumbered d peers kept = (place : ℕ) (p : Place) → slice_get d.places place ≡ Some p → IsSomeAnd (slice_get kept place) (λ numbers. Numbered peers p.peers numbers.items)

-- the first of the peers of these numbers that no object has got
abbrev pub first_of : List Peer → List (Option ℕ) → Option ℕ
first_of peers [] = None
first_of peers (number ∷ numbers) = if_left peers number (first_of peers numbers)

-- the same peers go by the same names, and the same of them are left
pub record AreAlike (old new : List Peer) : Type 0 where
  pub numbers : (name : List ℕ) → peer_number new name ≡ peer_number old name
  pub left : (names : List (List ℕ)) → first_left new names ≡ first_left old names
