-- What a bell may do.
use Rattle.std.specs.Prelude.{◌≡◌, List, [], ◌∷◌, Some, codes, true}
use Rattle.ui_machine.specs.Definition.Kinds as kinds
use Rattle.ui_machine.specs.Definition.Signals.{Method}
use Rattle.ui_machine.specs.Definition.Values as values
use Rattle.ui_machine.specs.State.Peers.{PeerState}
use Rattle.native_peers.specs.Moves.{Relation}

-- `ring() -> bool`
abbrev pub bell_shape : List Method
bell_shape = record { name = codes "ring"; params = []; result = kinds.bool } ∷ []

-- a bell always rings
abbrev pub Rings : Relation
Rings s method args answer t = (answer ≡ Some (values.bool true)) × (t.values ≡ s.values)

-- a bell begins open
abbrev pub new_bell : PeerState
new_bell = record { shape = bell_shape; is_open = true; calls = 0; faults = 0; values = [] }
