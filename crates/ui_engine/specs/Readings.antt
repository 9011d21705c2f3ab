-- What is read of a session's world.
use Rattle.std.specs.Prelude.{ℕ, List, Option, option_and_then, option_map, slice_get}
use Rattle.ui_machine.specs.Rules.Disposal.{peer_of}
use Rattle.ui_machine.specs.State.Config.{World}
use Rattle.ui_machine.specs.State.Objects.{living}
use Rattle.ui_machine.specs.State.Peers.{Peer}

-- the name of the peer of an object that lives
abbrev pub peer_name : World → ℕ → Option (List ℕ)
peer_name w id = option_map (λ (p : Peer). p.name) (option_and_then (slice_get w.peers) (peer_of (living w.objects id)))
