-- How a pool matches what is needed of it, in the words of the machine's pools.
use Rattle.std.specs.Prelude.{List, map, Option, None, Some, option_map, Result, Ok, Err}
use Rattle.ui_machine.specs.State.Peers.{Peer}
use Rattle.law_peers.specs.Needs as law
use Rattle.law_peers.specs.Needs.{Mismatch, missing, closed, misshapen, unused}
use Rattle.native_peers.specs.Seen.{Seen}
use Rattle.native_peers.specs.declared.faults.MatchFault.{MatchFault}
use Rattle.native_peers.specs.declared.faults.MatchFault.TheVariants as faults
use Rattle.native_peers.specs.declared.needs.Need.{Need}

-- a need of the code as one of the law
abbrev pub need_view : Need → law.Need
need_view n = record { name = n.name.now; methods = option_map (λ s. s.now) n.shape }

-- a peer that no object has got
abbrev pub as_peer : Seen → Peer
as_peer p = record { name = p.name; state = p.state; holder = None }

-- the peers of a pool that no object has got
abbrev pub as_peers : List Seen → List Peer
as_peers peers = map as_peer peers

-- the law's word for a fault
abbrev pub mismatch_view : MatchFault → Mismatch
mismatch_view (faults.PeerMissing name) = missing name.now
mismatch_view (faults.PeerClosed name) = closed name.now
mismatch_view (faults.PeerShape name) = misshapen name.now
mismatch_view (faults.PeerUnused name) = unused name.now

-- how a pool failed to match, if it did
abbrev pub mismatch_of : Result (Unit {0}) MatchFault → Option Mismatch
mismatch_of (Ok _) = None
mismatch_of (Err fault) = Some (mismatch_view fault)
