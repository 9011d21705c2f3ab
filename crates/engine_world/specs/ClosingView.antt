-- How the peer of an object is closed as the object is disposed.
use Rattle.std.specs.Prelude.{◌<◌, ℕ, List, None, Option, Some, cond, length, option_and_then, slice_get, string_bytes}
use Rattle.ui_machine.specs.Rules.Disposal.{peer_of}
use Rattle.ui_machine.specs.State.Config.{World}
use Rattle.ui_machine.specs.State.Objects.{living}
use Rattle.ui_machine.specs.State.Peers.{Peer}
use Rattle.engine_world.specs.SeatView.{closed_at}
use Rattle.engine_world.specs.View.{with_line}
use Rattle.engine_world.specs.declared.closings.Closing.{Closing}

-- the world after an open peer was closed, if one is to be, and its line was said
abbrev pub with_closed : Option Closing → World → World
with_closed None w = w
with_closed (Some c) w = with_line (string_bytes c.line) (record w { peers = closed_at w.peers c.peer })

-- the number of a peer, if it is there and open
abbrev pub open_peer : List Peer → ℕ → Option ℕ
open_peer peers number = option_and_then (λ (p : Peer). cond p.state.is_open (Some number) None) (slice_get peers number)

-- the number of the peer that is closed with an object: the object's, if it has one that is open
abbrev pub closed_with : World → ℕ → Option ℕ
closed_with w object = option_and_then (open_peer w.peers) (peer_of (living w.objects object))

-- the first number if there is one, and else the second
abbrev pub or_number : Option ℕ → Option ℕ → Option ℕ
or_number None other = other
or_number (Some number) other = Some number

-- a closing is of a peer that is there
abbrev pub IsThere : List Peer → Option Closing → Type 0
IsThere peers None = Unit {0}
IsThere peers (Some c) = c.peer < length peers
