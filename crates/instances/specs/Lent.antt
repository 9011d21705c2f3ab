-- Which objects have which peers.
use Rattle.std.specs.Prelude.{◌≡◌, ◌<◌, ◌≤◌, ℕ, Option, Some}
use Rattle.ui_machine.specs.State.Objects.{Objects, living}
use Rattle.ui_machine.specs.Rules.Disposal.{peer_of}

-- the number of the peer of an identity, if it lives and has one
abbrev pub peer_at : Objects → ℕ → Option ℕ
peer_at os id = peer_of (living os id)

-- no object has the peer of this number
abbrev pub IsFree : Objects → ℕ → Type 0
IsFree os number = (id : ℕ) → peer_at os id ≡ Some number → ⊥

-- each peer that an object has is one of the pool, and those objects have identities up to this
abbrev pub AreLent : ℕ → ℕ → Objects → Type 0
AreLent last count os = (id number : ℕ) → peer_at os id ≡ Some number → (id ≤ last) × (number < count)

-- no two objects have one peer
abbrev pub AreApart : Objects → Type 0
AreApart os = (i j number : ℕ) → peer_at os i ≡ Some number → peer_at os j ≡ Some number → i ≡ j
