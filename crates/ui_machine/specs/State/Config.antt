-- A world, a configuration, and the small changes of a world that all rules use.
use Rattle.std.specs.Prelude.{Bool, List, None, Ok, Option, [], cond, false, nat_eq, slice_get, true, ℕ, ◌++◌, ◌∷◌}
use Rattle.ui_machine.specs.Definition.{Definition}
use Rattle.ui_machine.specs.Definition.Values.{Value}
use Rattle.ui_machine.specs.Outcome.{Answer}
use Rattle.ui_machine.specs.Output.Lines.{Line}
use Rattle.ui_machine.specs.Output.Text.{text_of_line}
use Rattle.ui_machine.specs.Seq.{read, write}
use Rattle.ui_machine.specs.State.Bindings.{Binding}
use Rattle.ui_machine.specs.State.Handlers.{Handler}
use Rattle.ui_machine.specs.State.Objects.{Objects}
use Rattle.ui_machine.specs.State.Peers.{Peer, PeerState, no_peer}
use Rattle.ui_machine.specs.State.Sources.{Source}
use Rattle.ui_machine.specs.State.Tasks.{Task}

-- what the builder has of a definition's object
pub data BuilderEntry : Type 0 where
  unbuilt : BuilderEntry
  built : (object : ℕ) → BuilderEntry
  released : BuilderEntry

-- ** the configuration

-- all but the agenda and the count
pub record World : Type 0 where
  pub objects : Objects
  pub handlers : List Handler  -- in order of connection
  pub last_handler : ℕ  -- the number of the last one connected
  pub bindings : List Binding  -- in document order
  pub sources : List Source  -- in order of attachment
  pub last_source : ℕ
  pub floating : List ℕ
  pub builder : List BuilderEntry  -- by place, as far as it has built
  pub peers : List Peer
  pub moment : ℕ  -- of the latest turn
  pub transcript : List (List ℕ)  -- whole lines, without their LF
  pub result : Option Value  -- of the event

-- a world, what there is to do, and what was counted
pub record Config : Type 0 where
  pub world : World
  pub agenda : List Task
  pub counted : ℕ  -- the counted steps of this dispatch

-- ** small changes of a world

-- the world with a line said
abbrev pub said : Definition → World → Line → World
said d w line = record w { transcript = w.transcript ++ text_of_line d.types line ∷ [] }

-- the world with other objects
abbrev pub with_objects : World → Objects → World
with_objects w os = record w { objects = os }

-- what the builder has of a place
abbrev pub builder_entry : World → ℕ → BuilderEntry
builder_entry w place = read unbuilt w.builder place

-- whether the builder has not come to a place yet
abbrev pub is_unbuilt : BuilderEntry → Bool
is_unbuilt unbuilt = true
is_unbuilt (built id) = false
is_unbuilt released = false

-- the builder has this of a place
abbrev pub with_builder_entry : World → ℕ → BuilderEntry → World
with_builder_entry w place held = record w { builder = write unbuilt w.builder place held }

-- the list without one identity
abbrev pub without : ℕ → List ℕ → List ℕ
without id [] = []
without id (i ∷ is) = cond (nat_eq i id) (without id is) (i ∷ without id is)

-- an object no longer floats (GObject manual, g_object_ref_sink)
abbrev pub sunk : World → ℕ → World
sunk w id = record w { floating = without id w.floating }

-- the world after a step, and the tasks that go in front of the rest
pub record Started : Type 0 where
  pub world : World
  pub tasks : List Task

-- a part of a step that starts them
abbrev pub starts : World → List Task → Answer Started
starts w tasks = Ok (record { world = w; tasks = tasks })

-- ** what a part of a step answers

-- a world, and the whole agenda with it
pub record Left : Type 0 where
  pub world : World
  pub agenda : List Task

-- a step that leaves them
abbrev pub leaves : World → List Task → Answer Left
leaves w agenda = Ok (record { world = w; agenda = agenda })

-- ** peers

-- a peer of the pool
abbrev pub peer_at : World → ℕ → Option Peer
peer_at w number = slice_get w.peers number

-- the world with a peer in another state
abbrev pub with_peer_state : World → ℕ → Peer → PeerState → World
with_peer_state w number p state = record w { peers = write p w.peers number (record p { state = state }) }

-- a peer's state; one that is not there is closed
abbrev pub peer_state : World → ℕ → PeerState
peer_state w peer = (read no_peer w.peers peer).state

-- whether a peer is asked: a closed one is not
abbrev pub is_asked : World → ℕ → Bool
is_asked w peer = (peer_state w peer).is_open

-- ** small changes of a world

-- the world as an event begins, which has reported no value yet
abbrev pub untold : World → World
untold w = record w { result = None }
