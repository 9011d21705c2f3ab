-- What a run leaves of each peer of its pool, beside the lines that it shows.
use Rattle.std.specs.Prelude.{◌≡◌, ◌⊎◌, ◌≤◌, ℕ, Bool, true, false, List, [], ◌∷◌, ◌++◌, length, map}
use Rattle.std.specs.List.{filter}
use Rattle.ui_machine.specs.Definition.{Definition}
use Rattle.ui_machine.specs.Definition.Names.{same_name}
use Rattle.ui_machine.specs.Runs.{IsRun, Serves, Tally, of_build}
use Rattle.ui_machine.specs.Seq.{read}
use Rattle.ui_machine.specs.State.Config.{World}
use Rattle.ui_machine.specs.State.Peers.{Peer, PeerState, Reply, no_peer}
use Rattle.ui_machine.specs.State.Tasks.{Event}
use Rattle.machine_laws.specs.FrontLaws.{fronted}
use Rattle.machine_rows.specs.Runs.LastReference.{definition}
use Rattle.law_peers.specs.PeerLaws.{IsAmong, IsNamedApart, LeadsTo, close_line, peer_in, reply_line}
use Rattle.law_peers.specs.PeerLines.{is_reply_line_of}
use Rattle.law_peers.specs.WorkedPeers.{pool}
use Rattle.native_peers.specs.Moves.{closed}
use Rattle.native_peers.specs.Seen.{Relations, Seen}
use Rattle.engine_dispatches.specs.Following.{Halting}
use Rattle.engine_dispatches.specs.PoolView.{seen_of}
use Rattle.engine_dispatches.specs.Ways.{CutOff}
use Rattle.ui_engine.specs.Endings.{is_taken, taken_closed}

-- the state of the peer of a number in a pool
abbrev pub state_in : List Seen → ℕ → PeerState
state_in pool number = (read (seen_of no_peer) pool number).state

-- How a peer is left whose last reply left it in this state: in it, where no object has got it; closed, while it was open, with a line of the
-- run; or closed as the session is finished, where an object has got it.
pub data IsLeft (shown : List (List ℕ)) (close : List ℕ) (got : Bool) (last : PeerState) : PeerState → Type 0 where
  as_it_was : got ≡ false → IsLeft shown close got last last
  by_a_line : last.is_open ≡ true → IsAmong close shown → IsLeft shown close got last (closed last)
  at_the_end : got ≡ true → IsLeft shown close got last (closed last)

-- it has no line among these, or one
abbrev pub OnceAtMost : List ℕ → List (List ℕ) → Type 0
OnceAtMost line shown = (filter (same_name line) shown ≡ []) ⊎ (filter (same_name line) shown ≡ line ∷ [])

-- What the peer of a number comes to, from its state in a pool on. Its replies lead it to a last state, each asked while it is open, in the
-- state that the one before it left. The lines `call` and `fault` of its name are those of these replies, in their order; a line of its close
-- comes once at most. And it is left so.
pub record Comes (d : Definition) (peers : List Peer) (number : ℕ) (shown : List (List ℕ)) (got : Bool) (state : PeerState) : Type 0 where
  pub replies : List Reply
  pub last : PeerState
  pub asked : LeadsTo replies (peer_in peers number).state last
  pub told : filter (is_reply_line_of (peer_in peers number).name) shown ≡ map (reply_line d peers) replies
  pub once : OnceAtMost (close_line d peers number) shown
  pub left : IsLeft shown (close_line d peers number) got last state

-- the pool that a session leaves which is finished with these peers: each is closed that an object has got
abbrev pub ended : List Peer → List Seen
ended peers = taken_closed peers (map seen_of peers)

-- and which is finished in this world
abbrev pub finished : World → List Seen
finished w = ended w.peers

-- So it is of each peer of a whole run, which shows all its lines, the forgotten ones in front, and of the pool that is left as the session is
-- finished.
abbrev pub RunLeaves : Type 0
RunLeaves =
    (d : Definition) (peers : List Peer) (events : List Event) (replies : List Reply) (tally : Tally) (last new : World) (front shown : List (List ℕ)) →
    IsRun d peers events replies tally last → last ≡ fronted front new → front ++ new.transcript ≡ shown →
    (number : ℕ) → IsNamedApart peers number →
    Comes d peers number shown (is_taken new.peers number) (state_in (finished new) number)

-- And of each peer of a build, which is a run without events, with its lines, and the pool that it leaves: nothing is closed without a line.
abbrev pub BuildLeaves : Type 0
BuildLeaves =
    (d : Definition) (peers : List Peer) (replies : List Reply) (tally : Tally) (built : World) →
    IsRun d peers [] replies tally built →
    (number : ℕ) → IsNamedApart peers number →
    Comes d peers number built.transcript false (peer_in built.peers number).state

-- And of each peer of one event, with the lines that it adds, and the pool that it leaves: nothing is closed without a line.
abbrev pub EventLeaves : Type 0
EventLeaves =
    (d : Definition) (event : Event) (replies : List Reply) (tally : Tally) (w new : World) (added : List (List ℕ)) →
    Serves d event replies w tally new → new.transcript ≡ w.transcript ++ added →
    (number : ℕ) → IsNamedApart w.peers number →
    Comes d w.peers number added false (peer_in new.peers number).state

-- ** where no memory was found

-- The same, where no memory was found: a peer may have replied once more, and no line says so.
pub record BreaksOff (d : Definition) (peers : List Peer) (number : ℕ) (shown : List (List ℕ)) (got : Bool) (state : PeerState) : Type 0 where
  pub replies : List Reply
  pub more : List Reply
  pub one : length more ≤ 1
  pub last : PeerState
  pub asked : LeadsTo (replies ++ more) (peer_in peers number).state last
  pub told : filter (is_reply_line_of (peer_in peers number).name) shown ≡ map (reply_line d peers) replies
  pub once : OnceAtMost (close_line d peers number) shown
  pub left : IsLeft shown (close_line d peers number) got last state

-- So it is of each peer of an event in which no memory was found, with the lines that it added, and of the peers that it left.
abbrev pub CutLeaves : Relations → Type 0
CutLeaves may =
    (d : Definition) (event : Event) (replies : List Reply) (w : World) (left : List Peer) (added : List (List ℕ)) →
    CutOff d may event replies w left (w.transcript ++ added) →
    (number : ℕ) → IsNamedApart w.peers number →
    BreaksOff d w.peers number added false (peer_in left number).state

-- And of each peer of a run that breaks off in one more event, which shows all lines, and of the pool that is left as the session is finished:
-- an object has got a peer there where one has got it in the machine.
abbrev pub RunBreaksOff : Relations → Type 0
RunBreaksOff may =
    (d : Definition) (peers : List Peer) (events : List Event) (replies more : List Reply) (tally : Tally) (last : World) (event : Event)
    (left : List Peer) (shown : List (List ℕ)) →
    IsRun d peers events replies tally last → CutOff d may event more last left shown →
    (number : ℕ) → IsNamedApart peers number →
    BreaksOff d peers number shown (is_taken left number) (state_in (ended left) number)

-- and of each peer of a build that breaks off
abbrev pub BuildBreaksOff : Relations → Type 0
BuildBreaksOff may =
    (d : Definition) (peers : List Peer) (replies : List Reply) (left : List Peer) (shown : List (List ℕ)) →
    Halting d may replies (of_build d peers) left shown →
    (number : ℕ) → IsNamedApart peers number →
    BreaksOff d peers number shown (is_taken left number) (state_in (ended left) number)

-- ** a worked run

-- the peer of a worked run, which is called once, and closed as its object is finalised
pub record WorkedLeft : Type 0 where
  pub new : World
  pub comes : Comes definition pool 0 new.transcript (is_taken new.peers 0) (state_in (finished new) 0)
