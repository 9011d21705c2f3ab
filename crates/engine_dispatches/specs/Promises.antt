-- What is promised of the dispatches of a session: none is ever stuck, and each keeps within the bound that the report prints for what it
-- begins with.
use Rattle.ui_machine.specs.Definition.{Definition}
use Rattle.ui_machine.specs.Rules.Connections.{greatest_handler}
use Rattle.ui_machine.specs.Definition.Places.{Place}
use Rattle.ui_machine.specs.Seq.{total}
use Rattle.ui_machine.specs.Runs.{beginning, of_build, of_request}
use Rattle.ui_machine.specs.State.Config.{World, Config}
use Rattle.ui_machine.specs.State.Objects.{most_identities}
use Rattle.ui_machine.specs.State.Peers.{Peer}
use Rattle.ui_machine.specs.State.Sources.{Source}
use Rattle.ui_machine.specs.State.Tasks.{Due, Event, Request}
use Rattle.ui_machine.specs.State.Tasks as config
use Rattle.std.specs.Prelude.{ℕ, ◌+◌, ◌*◌, ◌≤◌, List, length}
use Rattle.law_typing.specs.Good.Requests.{entry_of}
use Rattle.law_typing.specs.Graph.{graph}
use Rattle.law_typing.specs.Graph.Channels.{Entry}
use Rattle.law_typing.specs.Graph.Channels as entries
use Rattle.law_typing.specs.Graph.Depths.{depth}
use Rattle.law_typing.specs.Laws.StepsKeepGood.{IsResting}
use Rattle.law_typing.specs.Verdict.Accepted.{Accepted}
use Rattle.law_steps.specs.Served.Dispatches.{Keeps}
use Rattle.law_steps.specs.Served.Sessions.{Runs}

-- no more objects were made than there are identities, and no greater number was given to a handler than there is
pub record IsNumbered (w : World) : Type 0 where
  pub objects : length w.objects ≤ most_identities
  pub handlers : w.last_handler ≤ greatest_handler

-- the build of a definition needs no more numbers than there are
pub record IsNumberable (d : Definition) : Type 0 where
  pub places : length d.places ≤ most_identities
  pub signals : total (λ (p : Place). length p.signals) d.places ≤ greatest_handler

-- so much room has all tasks of a definition, whose frames are no more than its depth, with one task between two of them
abbrev pub IsRoomy : Definition → (room : ℕ) → Type 0
IsRoomy d room = (a : Accepted d) → 2 * depth (graph d) a.weighed.depths + 4 ≤ room

-- a world between two dispatches, however the definition is accepted
abbrev pub Rests : Definition → World → Type 0
Rests d w = (a : Accepted d) → IsResting d a w × IsNumbered w

-- A dispatch that an event begins in a world, by what it begins with and where. A request begins one; a turn begins one for each of its
-- sources that is still there at its place, once those before it have run.
pub data Begins (d : Definition) (w : World) : Event → Entry → Config → Type 0 where
  by_request : (r : Request) → Begins d w (config.request r) (entry_of d r) (of_request w r)
  by_source : (moment number : ℕ) (v : World) (s : Source) → Runs d w moment number v s →
      Begins d w (config.turn moment) (entries.source s.program) (beginning v (Due number))

-- the build of a definition with these peers keeps what is promised of a dispatch
abbrev pub BuildKeeps : Definition → List Peer → Type 0
BuildKeeps d peers = (a : Accepted d) → Keeps d a entries.build (of_build d peers)

-- so does each dispatch that an event begins in a world
abbrev pub EventKeeps : Definition → World → Event → Type 0
EventKeeps d w event = (a : Accepted d) (e : Entry) (c : Config) → Begins d w event e c → Keeps d a e c
