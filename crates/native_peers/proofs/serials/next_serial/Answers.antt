use Rattle.std.proofs.Common.{◌≡◌, Some, slice_get, length, ◌-◌, sym}
use Rattle.native_peers.proofs.Numbering.{next_rises}
use Rattle.native_peers.proofs.serials.next_serial.Goals as goal

pub returns-in-Some : goal.returns-in-Some
returns-in-Some g c = λ rises.
    let peers = c.args.peers.now in
    let at : slice_get peers (length peers - 1) ≡ Some c.in-Some.peer.now = sym c.in-Some.ensures.value in
    next_rises (λ p. p.serial) peers c.in-Some.peer.now c.checked_add.result at c.checked_add.ensures rises
