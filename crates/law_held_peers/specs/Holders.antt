-- Which object holds a peer, and what is so of both.
use Rattle.std.specs.Prelude.{◌≡◌, ℕ, ◌≤◌, true, false, not, List, length, Option, Some, option_and_then, slice_get}
use Rattle.ui_machine.specs.Definition.{Definition}
use Rattle.ui_machine.specs.Definition.Signals.{Method}
use Rattle.ui_machine.specs.Rules.Construction.{nearest_shape}
use Rattle.ui_machine.specs.Rules.Events.{names_released}
use Rattle.ui_machine.specs.Runs.{Fits, IsRun, Step, Tally, beginning, of_build, of_request}
use Rattle.ui_machine.specs.State.Config.{Config, World}
use Rattle.ui_machine.specs.State.Objects.{Object, Objects, living}
use Rattle.ui_machine.specs.State.Peers.{Peer, Reply}
use Rattle.ui_machine.specs.State.Sources.{Source, source_of}
use Rattle.ui_machine.specs.State.Tasks.{Due, Event, Request}
use Rattle.law_typing.specs.Good.Requests.{RequestRead}
use Rattle.law_typing.specs.Laws.StepsKeepGood.{IsResting, PoolReady}
use Rattle.law_typing.specs.Laws.WellRead.{WellRead}
use Rattle.law_typing.specs.Rules.Typing.{methods_of}
use Rattle.law_typing.specs.Verdict.Accepted.{Accepted, Each}
use Rattle.law_steps.specs.Served.Dispatches.{Throughout}
use Rattle.law_steps.specs.Served.Sessions.{EventRead}
use Rattle.law_peers.specs.PeerLaws.{peer_in}
use Rattle.law_untaken_peers.specs.Untaken.{is_got}

-- ** a peer's holder

-- an object lives, is not disposed, and has the peer of this number
pub record HasPeer (os : Objects) (id number : ℕ) : Type 0 where
  pub object : Object
  pub lives : living os id ≡ Some object
  pub peer : object.peer ≡ Some number
  pub in_use : object.disposed ≡ false

-- A peer's holder, if there is one, was made, and has the peer while it lives; and while the peer is open it lives and is not disposed.
pub record HolderStands (os : Objects) (peers : List Peer) (number : ℕ) : Type 0 where
  pub made : (id : ℕ) → (peer_in peers number).holder ≡ Some id → id ≤ length os
  pub has : (id : ℕ) (o : Object) → (peer_in peers number).holder ≡ Some id → living os id ≡ Some o → o.peer ≡ Some number
  pub stands : (id : ℕ) → (peer_in peers number).holder ≡ Some id → (peer_in peers number).state.is_open ≡ true → HasPeer os id number

-- Each step keeps that, of any definition and whatever a peer replies.
abbrev pub StepsKeepHolders : Type 0
StepsKeepHolders =
    (d : Definition) (reply : Option Reply) (c e : Config) (number : ℕ) → Step d reply c e →
    HolderStands c.world.objects c.world.peers number → HolderStands e.world.objects e.world.peers number

-- ** objects and their peers

-- the methods of the shape that a class or its nearest ancestor names
abbrev pub methods_named : Definition → ℕ → List Method
methods_named d class = methods_of (option_and_then (λ shape. slice_get d.shapes shape) (nearest_shape d class))

-- What is so in a world of a run that began with this pool.
pub record AreHeldWell (d : Definition) (pool : List Peer) (w : World) : Type 0 where
  -- an object that has a peer is its holder, and no other object has it
  pub own : (id : ℕ) (o : Object) (number : ℕ) → living w.objects id ≡ Some o → o.peer ≡ Some number → (peer_in w.peers number).holder ≡ Some id
  pub alone : (id other : ℕ) (o p : Object) (number : ℕ) → living w.objects id ≡ Some o → living w.objects other ≡ Some p → o.peer ≡ Some number →
      p.peer ≡ Some number → id ≡ other
  -- it is open until the object is disposed
  pub openness : (id : ℕ) (o : Object) (number : ℕ) → living w.objects id ≡ Some o → o.peer ≡ Some number →
      (peer_in w.peers number).state.is_open ≡ not o.disposed
  -- it has the methods of the shape that the object's class names
  pub shaped : (id : ℕ) (o : Object) (number : ℕ) → living w.objects id ≡ Some o → o.peer ≡ Some number →
      (peer_in w.peers number).state.shape ≡ methods_named d o.class
  -- a peer's holder has it, and lives and is not disposed while the peer is open; but for a peer that had a holder as the run began
  pub held : (number : ℕ) → is_got pool number ≡ false → HolderStands w.objects w.peers number

-- ** dispatches

-- so it is throughout the build,
abbrev pub BuildsHoldWell : Type 0
BuildsHoldWell =
    (d : Definition) → WellRead d → Accepted d → (peers : List Peer) → PoolReady d peers →
    Throughout d (of_build d peers) (λ at. AreHeldWell d peers at.world)

-- and throughout a request and what a source runs, in a world at rest in which it is so
abbrev pub RequestsHoldWell : Type 0
RequestsHoldWell =
    (d : Definition) → WellRead d → (a : Accepted d) → (pool : List Peer) (w : World) → IsResting d a w → AreHeldWell d pool w →
    (r : Request) → RequestRead d r → names_released w r ≡ false → Throughout d (of_request w r) (λ at. AreHeldWell d pool at.world)

abbrev pub SourcesHoldWell : Type 0
SourcesHoldWell =
    (d : Definition) → WellRead d → (a : Accepted d) → (pool : List Peer) (w : World) → IsResting d a w → AreHeldWell d pool w →
    (number : ℕ) (s : Source) → source_of number w.sources ≡ Some s → Throughout d (beginning w (Due number)) (λ at. AreHeldWell d pool at.world)

-- ** runs

-- So it is at the end of a run.
abbrev pub RunsHoldWell : Type 0
RunsHoldWell =
    (d : Definition) → WellRead d → Accepted d → (peers : List Peer) → PoolReady d peers → (events : List Event) → Each (EventRead d) events →
    (replies : List Reply) → Each (Fits d) replies → (tally : Tally) (last : World) → IsRun d peers events replies tally last →
    AreHeldWell d peers last
