-- The peers that a definition names, each with the name of its class's shape.
use Rattle.std.specs.Prelude.{◌≡◌, ◌+◌, ◌++◌, ℕ, Bool, true, false, cond, List, [], length, map, Option, None, Some, option_and_then, option_map, slice_get}
use Rattle.std.specs.List.{flat_map}
use Rattle.ui_machine.specs.Definition.{Definition}
use Rattle.ui_machine.specs.Definition.Places.{Place}
use Rattle.ui_machine.specs.Definition.Signals.{Shape}
use Rattle.ui_machine.specs.Rules.Construction.{nearest_shape}
use Rattle.ui_machine.specs.Rules.Transform.{same_bool}
use Rattle.named_peers.specs.declared.named_peers.Sought.{Sought}
use Rattle.named_peers.specs.declared.named_peers.Sought.TheVariants as sought

-- the name of a peer, and that of its shape
abbrev pub NamedPeer : Type 0
NamedPeer = List ℕ × List ℕ

-- the name of the shape of a class, if it has one
abbrev pub shape_name : Definition → ℕ → Option (List ℕ)
shape_name d class = option_map (λ (s : Shape). s.name) (option_and_then (slice_get d.shapes) (nearest_shape d class))

-- these names, each with the shape's; none where there is no shape
abbrev pub with_shape : Option (List ℕ) → List (List ℕ) → List NamedPeer
with_shape None names = []
with_shape (Some shape) names = map (λ name. (name, shape)) names

-- the peers that a place names, if it is a prototype, or if it is an object
abbrev pub named_of_kind : Definition → Bool → Place → List NamedPeer
named_of_kind d is_prototype p = cond (same_bool p.is_prototype is_prototype) (with_shape (shape_name d p.class) p.peers) []

-- those that prototypes name, and then those that objects name
abbrev pub peers_of : Definition → List NamedPeer
peers_of d = flat_map (named_of_kind d true) d.places ++ flat_map (named_of_kind d false) d.places

-- a search of a list for the one of a number found it, or came to its end
abbrev pub IsSought : List NamedPeer → ℕ → Sought → Type 0
IsSought peers number (sought.Found name shape) = slice_get peers number ≡ Some (name.now, shape.now)
IsSought peers number (sought.Beyond left) = number ≡ length peers + left
