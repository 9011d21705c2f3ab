-- A new object takes a peer of the pool: the pool stays good, and so is the peer that the object gets.
use Rattle.std.specs.Prelude.{◌≡◌, ◌⊎◌, ℕ, ◌<◌, ◌≤◌, true, is_some, Some}
use Rattle.std.specs.List.{flat_map}
use Rattle.ui_machine.specs.Definition.{Definition}
use Rattle.ui_machine.specs.Definition.Names.{same_name}
use Rattle.ui_machine.specs.Definition.Places.{Place}
use Rattle.ui_machine.specs.Definition.Lookups.{place_at}
use Rattle.ui_machine.specs.State.Config.{World}
use Rattle.ui_machine.specs.Rules.Construction.{has_shape, peer_left, peer_to_take, new_object, lent}
use Rattle.law_typing.specs.Laws.WellRead.{no_two}
use Rattle.law_typing.specs.Good.Objects.{PeerGood, PeersGood}
use Rattle.law_steps.specs.Kept.New.{next_identity, TakesFree}

-- no peer is named by two places
abbrev pub NamedOnce : Definition → Type 0
NamedOnce d = no_two same_name (flat_map (λ (p : Place). p.peers) d.places) ≡ true

-- the peers are there for those that still want them: the place is a prototype, or the builder has come past it
abbrev pub PeersLent : Type 0
PeersLent =
    (d : Definition) → NamedOnce d → (w : World) (place made later new : ℕ) (p : Place) → place_at d place ≡ Some p →
    (p.is_prototype ≡ true) ⊎ (place < later) → made ≤ later → PeersGood d w.peers made →
    PeersGood d (lent (peer_to_take d w p) new w.peers) later

-- the peer that is taken was free, and is the object's own, where one is left
abbrev pub NewPeerGood : Type 0
NewPeerGood =
    (d : Definition) (w : World) (place made : ℕ) (p : Place) → place_at d place ≡ Some p → PeersGood d w.peers made →
    (has_shape d p.class ≡ true → is_some (peer_left w p) ≡ true) →
    TakesFree w (new_object d place p (peer_to_take d w p))
    × PeerGood d (lent (peer_to_take d w p) (next_identity w) w.peers) (next_identity w) (new_object d place p (peer_to_take d w p))
