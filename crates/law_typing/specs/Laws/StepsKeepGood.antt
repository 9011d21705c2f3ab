-- What is to be proved of runs of an accepted definition: where they begin what each step is to keep holds, each step keeps it, and where a
-- dispatch ends the world is at rest.
use Rattle.std.specs.Prelude.{◌≡◌, ℕ, ◌≤◌, true, false, List, Option, None, Some, Ok, Err, slice_get, IfSome}
use Rattle.ui_machine.specs.Definition.{Definition}
use Rattle.ui_machine.specs.Definition.Signals.{Shape}
use Rattle.ui_machine.specs.Definition.Places.{Place}
use Rattle.ui_machine.specs.Definition.Lookups.{place_at}
use Rattle.ui_machine.specs.State.Peers.{Peer, Reply, peer_number}
use Rattle.ui_machine.specs.State.Sources.{Source, source_of}
use Rattle.ui_machine.specs.State.Tasks.{Request, Due}
use Rattle.ui_machine.specs.State.Config.{World, Config, said}
use Rattle.ui_machine.specs.Rules.Construction.{nearest_shape}
use Rattle.ui_machine.specs.Outcome.{Answer}
use Rattle.ui_machine.specs.Output.Lines as lines
use Rattle.ui_machine.specs.Steps.{step, question, most_steps}
use Rattle.ui_machine.specs.Runs.{question_in, Fits, HasEnded, of_build, of_request, beginning}
use Rattle.ui_machine.specs.Rules.Events.{names_released}
use Rattle.ui_machine.specs.Rules.MainLoop.{turned}
use Rattle.law_typing.specs.Graph.Channels as entries
use Rattle.law_typing.specs.Graph.{graph}
use Rattle.law_typing.specs.Graph.Tables.{Tables}
use Rattle.law_typing.specs.Graph.Costs.{bound}
use Rattle.law_typing.specs.Graph.Depths.{depth}
use Rattle.law_typing.specs.Verdict.Accepted.{Each, Accepted}
use Rattle.law_typing.specs.Laws.WellRead.{WellRead}
use Rattle.law_typing.specs.Good.Requests.{RequestRead, entry_of}
use Rattle.law_typing.specs.Good.Agenda.{frames}
use Rattle.law_typing.specs.Good.{Good, Resting}

-- ** an accepted definition

-- what each step is to keep, with the costs and depths of an accepted definition
abbrev pub IsGood : (d : Definition) → Accepted d → (most_counted : ℕ) → Config → Type 0
IsGood d a most_counted c = Good d a.weighed.costs a.weighed.depths most_counted (depth (graph d) a.weighed.depths) c

-- a world at rest, with the costs and depths of an accepted definition
abbrev pub IsResting : (d : Definition) → Accepted d → World → Type 0
IsResting d a w = Resting d a.weighed.costs a.weighed.depths w

-- the bound that the report gives of what a dispatch begins with
abbrev pub bound_of : (d : Definition) → Accepted d → entries.Entry → ℕ
bound_of d a e = bound (graph d) a.weighed.costs e

-- ** the pool

-- a peer that a place names is in the pool, open, of the shape of the place's class, and no object's
pub record PeerReady (d : Definition) (peers : List Peer) (p : Place) (name : List ℕ) : Type 0 where
  pub number : ℕ
  pub peer : Peer
  pub shape : ℕ
  pub methods : Shape
  pub is : peer_number peers name ≡ Some number
  pub has : slice_get peers number ≡ Some peer
  pub of_class : nearest_shape d p.class ≡ Some shape
  pub shaped : (slice_get d.shapes shape ≡ Some methods) × (peer.state.shape ≡ methods.methods)
  pub is_open : peer.state.is_open ≡ true
  pub free : peer.holder ≡ None

-- each that is named is
abbrev pub PoolReady : Definition → List Peer → Type 0
PoolReady d peers = (place : ℕ) (p : Place) → place_at d place ≡ Some p → Each (PeerReady d peers p) p.peers

-- ** where dispatches begin

-- the build begins well, within its bound
abbrev pub BuildBegins : Type 0
BuildBegins =
    (d : Definition) → WellRead d → (a : Accepted d) → (peers : List Peer) → PoolReady d peers →
    IsGood d a (bound_of d a entries.build) (of_build d peers)

-- so does a request from any world at rest, if it names no object that was released
abbrev pub RequestsBegin : Type 0
RequestsBegin =
    (d : Definition) → WellRead d → (a : Accepted d) → (w : World) → IsResting d a w → (r : Request) → RequestRead d r →
    names_released w r ≡ false →
    IsGood d a (bound_of d a (entry_of d r)) (of_request w r)

-- and a source that is attached
abbrev pub SourcesBegin : Type 0
SourcesBegin =
    (d : Definition) → WellRead d → (a : Accepted d) → (w : World) → IsResting d a w → (number : ℕ) (s : Source) →
    source_of number w.sources ≡ Some s →
    IsGood d a (bound_of d a (entries.source s.program)) (beginning w (Due number))

-- a turn of the main loop leaves a world at rest as it is
abbrev pub TurnsRest : Type 0
TurnsRest = (d : Definition) (costs depths : Tables) (w : World) (moment : ℕ) → Resting d costs depths w →
    Resting d costs depths (turned d w moment)

-- ** steps

-- not stuck, and what comes next is good
abbrev pub Fine : Definition → Tables → Tables → ℕ → ℕ → Answer Config → Type 0
Fine d costs depths most_counted most (Ok c) = Good d costs depths most_counted most c
Fine d costs depths most_counted most (Err arm) = ⊥

-- a reply that the step takes: that of the peer which is asked, as every peer may give it
pub record Replies (d : Definition) (c : Config) (reply : Option Reply) : Type 0 where
  pub asks : question d c ≡ question_in reply
  pub fits : IfSome reply (Fits d)

-- each step of a run of an accepted definition keeps what is good
abbrev pub StepsKeepGood : Type 0
StepsKeepGood =
    (d : Definition) → WellRead d → (a : Accepted d) → (most_counted : ℕ) → most_counted ≤ most_steps → (c : Config) →
    IsGood d a most_counted c → (reply : Option Reply) → Replies d c reply →
    Fine d a.weighed.costs a.weighed.depths most_counted (depth (graph d) a.weighed.depths) (step d reply c)

-- ** what follows of what is good

-- a dispatch keeps within its bound and its depth
abbrev pub GoodIsWithin : Type 0
GoodIsWithin =
    (d : Definition) (costs depths : Tables) (most_counted most : ℕ) (c : Config) → Good d costs depths most_counted most c →
    (c.counted ≤ most_counted) × (frames c.agenda ≤ most)

-- where it has ended the world is at rest
abbrev pub EndsRest : Type 0
EndsRest =
    (d : Definition) (costs depths : Tables) (most_counted most : ℕ) (c : Config) → Good d costs depths most_counted most c → HasEnded d c →
    Resting d costs depths (said d c.world (lines.end c.counted))
