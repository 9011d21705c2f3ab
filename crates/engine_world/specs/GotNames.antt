-- Peers of a place of which objects have got the first.
use Rattle.std.specs.Prelude.{◌≡◌, ◌≤◌, ℕ, List, None, Option, Some, is_some, length, slice_get, true}
use Rattle.ui_machine.specs.State.Peers.{Peer, if_left}

-- so many of these numbers are all that come before the first one of a peer that is left
abbrev pub AreAllGot : List Peer → List (Option ℕ) → ℕ → Type 0
AreAllGot peers numbers n = (n ≤ length numbers) × ((number : Option ℕ) → slice_get numbers n ≡ Some number → is_some (if_left peers number None) ≡ true)
