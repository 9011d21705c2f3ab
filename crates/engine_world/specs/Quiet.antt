-- What is as it was where a step finds no memory.
use Rattle.std.specs.Prelude.{◌≡◌, ℕ, List, Option, map}
use Rattle.ui_machine.specs.State.Config.{World}
use Rattle.ui_machine.specs.State.Peers.{Peer}

-- the object that has got each peer, if one has
abbrev pub holders : List Peer → List (Option ℕ)
holders peers = map (λ (p : Peer). p.holder) peers

-- no line was said, and each peer is whose it was
abbrev pub IsQuiet : World → World → Type 0
IsQuiet old new = (new.transcript ≡ old.transcript) × (holders new.peers ≡ holders old.peers)
