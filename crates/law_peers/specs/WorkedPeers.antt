-- A worked run with a peer, and a worked step that is about none.
use Rattle.std.specs.Prelude.{◌≡◌, ℕ, true, false, List, [], ◌∷◌, codes, None, is_ok}
use Rattle.ui_machine.specs.Runs.{IsRun, Tally, of_build}
use Rattle.ui_machine.specs.State.Config.{World}
use Rattle.ui_machine.specs.State.Peers.{Peer, Reply}
use Rattle.ui_machine.specs.Steps.{step}
use Rattle.machine_laws.specs.FrontLaws.{mapped}
use Rattle.machine_rows.specs.Runs.LastReference.{definition, events}
use Rattle.machine_rows.specs.Runs.LastReference as last_reference
use Rattle.law_peers.specs.PeerLines.{peer_lines}
use Rattle.law_peers.specs.Blind.{meets_peers, with_peers_at}
use Rattle.law_peers.specs.PeerLaws.{IsNamedApart, Lives, LivesBy, peer_in}

-- its pool, a peer that counts
abbrev pub pool : List Peer
pool = last_reference.peers

-- what it says of the peer: one call, and a close as its object is finalised
abbrev pub said_of_it : List (List ℕ)
said_of_it = codes "call t.add(2) = 2" ∷ codes "close t" ∷ []

-- a world in which that run may end
pub record WorkedLife : Type 0 where
  pub replies : List Reply
  pub tally : Tally
  pub new : World
  pub run : IsRun definition pool events replies tally new
  pub said : peer_lines new.transcript ≡ said_of_it
  pub lives : Lives definition pool replies said_of_it new.peers
  pub by : LivesBy definition 0 pool replies said_of_it new.peers
  pub apart : IsNamedApart pool 0
  -- the peer has counted its call, and is closed
  pub called : (peer_in new.peers 0).state.calls ≡ 1
  pub closed : (peer_in new.peers 0).state.is_open ≡ false

-- the first step of its build makes an object without a peer: it leads to the same without a pool
pub record WorkedBlind : Type 0 where
  pub meets_none : meets_peers definition (of_build definition pool) ≡ false
  pub leads : is_ok (step definition None (of_build definition pool)) ≡ true
  pub same : step definition None (of_build definition []) ≡ mapped (with_peers_at []) (step definition None (of_build definition pool))
