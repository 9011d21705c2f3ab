-- The peers of a pool that matches are kept apart by their names: none has a point in its name, and no two have one name.
use Rattle.std.specs.Prelude.{◌≡◌, ◌<◌, ℕ, Bool, true, false, List, [], ◌∷◌, None, length, map}
use Rattle.std.specs.List.{flat_map, list_all}
use Rattle.ui_machine.specs.Definition.Names.{same_name}
use Rattle.ui_machine.specs.Definition.{Definition}
use Rattle.ui_machine.specs.Definition.Places.{Place}
use Rattle.ui_machine.specs.State.Peers.{Peer}
use Rattle.law_typing.specs.Laws.WellRead.{no_two}
use Rattle.law_peers.specs.PeerLaws.{IsNamedApart}
use Rattle.law_peers.specs.PeerLines.{has_no_point}
use Rattle.law_peers.specs.Needs.{mismatch}

-- a name that has a byte, and no point
abbrev pub is_plain : List ℕ → Bool
is_plain [] = false
is_plain (x ∷ name) = has_no_point (x ∷ name)

-- the names of a matched pool are apart, where the definition names its peers plainly and the pool has no two of one name
abbrev pub MatchedIsApart : Type 0
MatchedIsApart =
    (d : Definition) (pool : List Peer) (number : ℕ) → list_all is_plain (flat_map (λ (p : Place). p.peers) d.places) ≡ true →
    no_two same_name (map (λ (p : Peer). p.name) pool) ≡ true → mismatch d pool ≡ None → number < length pool → IsNamedApart pool number
