-- What a run of the program leaves of each peer of the pool that it is lent.
use Rattle.std.specs.Prelude.{◌<◌, ◌⊎◌, ℕ, List, ◌++◌, length}
use Rattle.ui_machine.specs.State.Peers.{Peer}
use Rattle.native_peers.specs.Seen.{Relations}
use Rattle.ui_engine.specs.Endings.{is_taken}
use Rattle.ui_engine.specs.SessionView.{SessionState}
use Rattle.law_left_peers.specs.Sessions.LeftPeers.{BreaksOff, Comes, state_in}
use Rattle.event_lines.specs.EventFileRun.{Outcome}
use Rattle.event_lines.specs.Opening.{IsBrokenOff, IsTaken, left_by}
use Rattle.event_lines.specs.RunOver.{RunsOver, said_in}

-- one peer, beside these lines, in the pool that is left as a session is finished which has come to this state
abbrev pub Left : List Peer → SessionState → List (List ℕ) → SessionState → ℕ → Type 0
Left peers s shown new number =
    Comes s.definition peers number shown (is_taken new.world.peers number) (state_in (left_by new.world) number)
    ⊎ BreaksOff s.definition peers number shown (is_taken new.world.peers number) (state_in (left_by new.world) number)

-- Of a run whose definition was built, each peer is left as its replies lead it, beside all lines that were said; and where the run broke off
-- for want of memory it may have replied once more.
abbrev pub RunsLeave : Relations → List Peer → Type 0
RunsLeave may peers =
    (bytes : List ℕ) (s : SessionState) (lines : List (List ℕ)) (outcomes : List Outcome) (new : SessionState) →
    IsTaken bytes s.definition peers → RunsOver may s peers lines outcomes new →
    (number : ℕ) → number < length peers → Left peers s (s.world.transcript ++ said_in outcomes) new number

-- So it is where no memory was found in the build.
abbrev pub StopsLeave : Relations → List Peer → Type 0
StopsLeave may peers =
    (bytes : List ℕ) (s : SessionState) → IsTaken bytes s.definition peers → IsBrokenOff may peers s →
    (number : ℕ) → number < length peers →
    BreaksOff s.definition peers number s.world.transcript (is_taken s.world.peers number) (state_in (left_by s.world) number)
