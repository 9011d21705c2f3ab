-- What is seen of a stand-in, a peer of which each call is a fault.
use Rattle.std.specs.Prelude.{◌≡◌, ◌∷◌, List, None, Option, Some, [], map, string_bytes}
use Rattle.ui_machine.specs.State.Peers.{PeerState}
use Rattle.peer_shapes.specs.MethodViews.{method_view}
use Rattle.native_peers.specs.Moves.{Relation}
use Rattle.native_peers.specs.Seen.{Seen}
use Rattle.native_peers.specs.declared.stand_ins.StandIn.{StandIn}

-- each call of it was a fault
abbrev pub state_of : StandIn → PeerState
state_of s = record { shape = map method_view s.methods.items; is_open = s.is_callable; calls = s.calls; faults = s.calls; values = [] }

abbrev pub seen_of : StandIn → Seen
seen_of s = record { name = string_bytes s.name; state = state_of s }

-- what is seen of one, or of none
abbrev pub stand_ins : Option StandIn → List Seen
stand_ins None = []
stand_ins (Some s) = seen_of s ∷ []

-- it answers no value
abbrev pub Faults : Relation
Faults s method args answer t = answer ≡ None
