-- What a run does to the peers of its pool: each is asked in the state that its reply before left, and closed once at most.
use Rattle.std.specs.Prelude.{◌≡◌, ℕ, true, false, List, [], ◌∷◌, ◌++◌, ◌⊎◌, Option, Some, map, nat_eq, slice_get}
use Rattle.std.specs.List.{filter}
use Rattle.ui_machine.specs.declared.arm.Halt.{Halt}
use Rattle.ui_machine.specs.Definition.{Definition}
use Rattle.ui_machine.specs.Definition.Kinds as kinds
use Rattle.ui_machine.specs.Definition.Names.{same_name}
use Rattle.ui_machine.specs.Definition.Signals.{Method}
use Rattle.ui_machine.specs.Instructions.Peers.{call_line}
use Rattle.ui_machine.specs.Output.Lines as lines
use Rattle.ui_machine.specs.Output.Text.{text_of_line}
use Rattle.ui_machine.specs.Rules.Construction.{lent}
use Rattle.ui_machine.specs.Rules.Disposal.{finish}
use Rattle.ui_machine.specs.Runs.{Dispatches, HaltsIn, IsRun, Reaches, Serves, ServesAll, Step, Tally, listed}
use Rattle.ui_machine.specs.Seq.{read, write}
use Rattle.ui_machine.specs.State.Config.{Config, World}
use Rattle.ui_machine.specs.State.Objects.{Object}
use Rattle.ui_machine.specs.State.Peers.{Peer, PeerState, Reply, closed_peer, no_peer}
use Rattle.ui_machine.specs.State.Tasks.{Event}
use Rattle.law_peers.specs.PeerLines.{has_no_point, is_reply_line, is_reply_line_of, peer_lines}

-- ** a pool

-- a peer by its number; where there is none, one without a name that is closed
abbrev pub peer_in : List Peer → ℕ → Peer
peer_in peers number = read no_peer peers number

-- the pool after a peer has replied
abbrev pub replied_in : List Peer → Reply → List Peer
replied_in peers r = write no_peer peers r.question.peer (record (peer_in peers r.question.peer) { state = r.state })

-- the pool after a peer was closed
abbrev pub shut_in : List Peer → ℕ → List Peer
shut_in peers number = write no_peer peers number (closed_peer (peer_in peers number))

-- a method without a name, where there is none
abbrev pub no_method : Method
no_method = record { name = []; params = []; result = kinds.bool }

-- the line of a reply: `call`, or `fault`
abbrev pub reply_line : Definition → List Peer → Reply → List ℕ
reply_line d peers r =
    text_of_line d.types
    (call_line (peer_in peers r.question.peer) (read no_method r.question.state.shape r.question.method) r.question.args r.answer)

-- the line of a close
abbrev pub close_line : Definition → List Peer → ℕ → List ℕ
close_line d peers number = text_of_line d.types (lines.close (peer_in peers number).name)

-- ** what happens to it

-- Peers live from one pool to another, by these replies and with these lines. One is got by an object; or replies while it is open, asked in
-- the state that it has, and then has the reply's; or is closed while it is open. Nothing else changes a pool.
pub data Lives (d : Definition) : List Peer → List Reply → List (List ℕ) → List Peer → Type 0 where
  nothing : {peers : List Peer} → Lives d peers [] [] peers
  was_got : {peers : List Peer} {replies : List Reply} {lines : List (List ℕ)} {new : List Peer} (number object : ℕ) →
      Lives d (lent (Some number) object peers) replies lines new → Lives d peers replies lines new
  has_replied : {peers : List Peer} {reply : Reply} {more : List Reply} {line : List ℕ} {lines : List (List ℕ)} {new : List Peer} →
      reply.question.state ≡ (peer_in peers reply.question.peer).state → reply.question.state.is_open ≡ true →
      line ≡ reply_line d peers reply →
      Lives d (replied_in peers reply) more lines new → Lives d peers (reply ∷ more) (line ∷ lines) new
  was_closed : {peers : List Peer} {replies : List Reply} {line : List ℕ} {lines : List (List ℕ)} {new : List Peer} (number : ℕ) →
      (peer_in peers number).state.is_open ≡ true → line ≡ close_line d peers number →
      Lives d (shut_in peers number) replies lines new → Lives d peers replies (line ∷ lines) new

-- the peers of a world live to those of another, and the lines about peers that were added are theirs
pub record PeersLive (d : Definition) (replies : List Reply) (w new : World) : Type 0 where
  pub lines : List (List ℕ)
  pub shown : peer_lines new.transcript ≡ peer_lines w.transcript ++ lines
  pub lives : Lives d w.peers replies lines new.peers

-- ** the laws on runs

abbrev pub StepLives : Type 0
StepLives = (d : Definition) (reply : Option Reply) (c e : Config) → Step d reply c e → PeersLive d (listed reply) c.world e.world

abbrev pub ReachesLives : Type 0
ReachesLives = (d : Definition) (replies : List Reply) (c e : Config) → Reaches d replies c e → PeersLive d replies c.world e.world

abbrev pub DispatchLives : Type 0
DispatchLives =
    (d : Definition) (replies : List Reply) (c : Config) (count : ℕ) (new : World) → Dispatches d replies c count new →
    PeersLive d replies c.world new

abbrev pub EventLives : Type 0
EventLives =
    (d : Definition) (event : Event) (replies : List Reply) (w : World) (tally : Tally) (new : World) → Serves d event replies w tally new →
    PeersLive d replies w new

abbrev pub EventsLive : Type 0
EventsLive =
    (d : Definition) (events : List Event) (replies : List Reply) (w : World) (tally : Tally) (new : World) →
    ServesAll d events replies w tally new → PeersLive d replies w new

-- a run, whose lines about peers are all of these
abbrev pub RunLives : Type 0
RunLives =
    (d : Definition) (peers : List Peer) (events : List Event) (replies : List Reply) (tally : Tally) (new : World) →
    IsRun d peers events replies tally new → Lives d peers replies (peer_lines new.transcript) new.peers

-- peers live to those of a world that has shown these lines
pub record LivesTo (d : Definition) (replies : List Reply) (w : World) (shown : List (List ℕ)) : Type 0 where
  pub at : World
  pub lines : at.transcript ≡ shown
  pub lives : PeersLive d replies w at

-- peers live so as far as an event comes that halts
abbrev pub HaltLives : Type 0
HaltLives =
    (d : Definition) (event : Event) (replies : List Reply) (w : World) (halt : Halt) (shown : List (List ℕ)) →
    HaltsIn d event replies w halt shown → LivesTo d replies w shown

-- ** what this says of each peer

-- the replies of one peer
abbrev pub replies_of : ℕ → List Reply → List Reply
replies_of number replies = filter (λ (r : Reply). nat_eq r.question.peer number) replies

-- replies lead from a state to another: each is asked while its peer is open, in the state that the one before it left
abbrev pub LeadsTo : List Reply → PeerState → PeerState → Type 0
LeadsTo [] first last = first ≡ last
LeadsTo (r ∷ more) first last = (r.question.state ≡ first) × (first.is_open ≡ true) × LeadsTo more r.state last

-- a state, closed
abbrev pub shut : PeerState → PeerState
shut s = record s { is_open = false }

-- whether a line is among some
abbrev pub IsAmong : List ℕ → List (List ℕ) → Type 0
IsAmong line [] = ⊥
IsAmong line (l ∷ lines) = (l ≡ line) ⊎ IsAmong line lines

-- a peer is left in its last state, or it is open there and then closed, with its line
pub data Ends (line : List ℕ) (lines : List (List ℕ)) : PeerState → PeerState → Type 0 where
  stays : {s : PeerState} → Ends line lines s s
  is_shut : {s : PeerState} → s.is_open ≡ true → IsAmong line lines → Ends line lines s (shut s)

-- what one peer comes to
pub record LivesBy (d : Definition) (number : ℕ) (peers : List Peer) (replies : List Reply) (lines : List (List ℕ)) (new : List Peer)
    : Type 0 where
  pub last : PeerState  -- in which its last reply leaves it
  pub asked : LeadsTo (replies_of number replies) (peer_in peers number).state last
  pub ended : Ends (close_line d peers number) lines last (peer_in new number).state
  pub named : (peer_in new number).name ≡ (peer_in peers number).name

-- each peer is asked as its replies lead, and then closed at most once, after which it is not asked
abbrev pub EachLives : Type 0
EachLives =
    (d : Definition) (number : ℕ) (peers : List Peer) (replies : List Reply) (lines : List (List ℕ)) (new : List Peer) →
    Lives d peers replies lines new → LivesBy d number peers replies lines new

-- the lines `call` and `fault` are those of the replies, in their order
abbrev pub LinesOfReplies : Type 0
LinesOfReplies =
    (d : Definition) (peers : List Peer) (replies : List Reply) (lines : List (List ℕ)) (new : List Peer) → Lives d peers replies lines new →
    filter is_reply_line lines ≡ map (reply_line d peers) replies

-- a pool in which no name has a point, and no other peer has the name of this one
pub record IsNamedApart (peers : List Peer) (number : ℕ) : Type 0 where
  pub plain : (other : ℕ) → has_no_point (peer_in peers other).name ≡ true
  pub alone : (other : ℕ) → (peer_in peers other).name ≡ (peer_in peers number).name → other ≡ number

-- in such a pool the lines `call` and `fault` with a peer's name are those of its replies, in their order
abbrev pub LinesByName : Type 0
LinesByName =
    (d : Definition) (number : ℕ) (peers : List Peer) (replies : List Reply) (lines : List (List ℕ)) (new : List Peer) →
    Lives d peers replies lines new → IsNamedApart peers number →
    filter (is_reply_line_of (peer_in peers number).name) lines ≡ map (reply_line d peers) (replies_of number replies)

-- and its line of a close comes once at most
abbrev pub ClosesOnce : Type 0
ClosesOnce =
    (d : Definition) (number : ℕ) (peers : List Peer) (replies : List Reply) (lines : List (List ℕ)) (new : List Peer) →
    Lives d peers replies lines new → IsNamedApart peers number →
    (filter (same_name (close_line d peers number)) lines ≡ [])
    ⊎ (filter (same_name (close_line d peers number)) lines ≡ close_line d peers number ∷ [])

-- a peer with no reply, and with no line of its close, is as it was
abbrev pub UntouchedStays : Type 0
UntouchedStays =
    (d : Definition) (number : ℕ) (peers : List Peer) (replies : List Reply) (lines : List (List ℕ)) (new : List Peer) →
    Lives d peers replies lines new → replies_of number replies ≡ [] → (IsAmong (close_line d peers number) lines → ⊥) →
    (peer_in new number).state ≡ (peer_in peers number).state

-- ** the end of a session

-- what one peer comes to as the session is finished after a run: its replies lead to this state, which may be closed then
pub record FinishedBy (number : ℕ) (peers : List Peer) (replies : List Reply) (new : List Peer) : Type 0 where
  pub last : PeerState
  pub asked : LeadsTo (replies_of number replies) (peer_in peers number).state last
  pub ended : ((peer_in new number).state ≡ last) ⊎ ((peer_in new number).state ≡ shut last)
  pub named : (peer_in new number).name ≡ (peer_in peers number).name

-- each peer of a run is asked as its replies lead, and closed at most, by a dispose or as the session is finished
abbrev pub RunFinishes : Type 0
RunFinishes =
    (d : Definition) (peers : List Peer) (events : List Event) (replies : List Reply) (tally : Tally) (new : World) (number : ℕ) →
    IsRun d peers events replies tally new → FinishedBy number peers replies (finish new).peers

-- and closed it is where an object has got it
abbrev pub FinishCloses : Type 0
FinishCloses =
    (w : World) (id number : ℕ) (o : Object) → slice_get w.objects id ≡ Some (Some o) → o.peer ≡ Some number →
    (peer_in (finish w).peers number).state.is_open ≡ false
