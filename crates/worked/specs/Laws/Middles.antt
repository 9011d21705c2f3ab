-- Configurations in the middle of runs of accepted definitions, each reached by the machine: what each step is to keep holds there, within the
-- bound and the depth of the report.
use Rattle.std.specs.Prelude.{◌≡◌, ℕ, pos, Bool, true, false, List, [], ◌∷◌, ◌++◌, map, codes, Option, None, Some, option_map, Ok}
use Rattle.ui_machine.specs.Definition.{Definition}
use Rattle.ui_machine.specs.Definition.Kinds.{int, int64}
use Rattle.ui_machine.specs.Definition.Values.{Value}
use Rattle.ui_machine.specs.Definition.Values as values
use Rattle.ui_machine.specs.Definition.Places.{value, named}
use Rattle.ui_machine.specs.State.Bindings.{Binding}
use Rattle.ui_machine.specs.State.Objects.{Object}
use Rattle.ui_machine.specs.State.Peers.{Peer}
use Rattle.ui_machine.specs.State.Tasks.{Task, Emission, Event, Request, Notifying, Running, Emitting, Transferring, Unsetting, Calling, Constructing, Building, adopts, binds, connects, thaws, set, emit, request}
use Rattle.ui_machine.specs.State.Config.{World, Config}
use Rattle.ui_machine.specs.Runs.{of_build, of_request}
use Rattle.law_typing.specs.Graph.Channels as entries
use Rattle.law_typing.specs.Verdict.{verdict, accepted}
use Rattle.law_typing.specs.Verdict.Accepted.{Accepted}
use Rattle.law_typing.specs.Laws.WellRead.{WellRead}
use Rattle.law_typing.specs.Laws.StepsKeepGood.{PoolReady, IsGood, bound_of}
use Rattle.law_typing.specs.Laws.Beginnings.{tally}
use Rattle.law_typing.specs.Laws.MidRun.{after}
use Rattle.law_typing.specs.Good.Requests.{entry_of}
use Rattle.law_typing.specs.Examples.LastReference as last_reference
use Rattle.law_typing.specs.Examples.RepeatedBlock as repeated_block
use Rattle.law_typing.specs.Examples.FrozenTarget as frozen_target
use Rattle.law_steps.specs.Served.Sessions.{Serves}
use Rattle.worked.specs.Laws.Gathering as gathering

-- ** what is shown of a configuration

-- how often an object is frozen, and the slots whose notification waits
pub record Held : Type 0 where
  pub freezes : ℕ
  pub queue : List ℕ

-- its tasks, which bindings set, and what is held back of each object
pub record Look : Type 0 where
  pub tasks : List Task
  pub busy : List Bool
  pub held : List (Option Held)

abbrev pub held_of : Object → Held
held_of o = record { freezes = o.freezes; queue = o.queue }

abbrev pub look_of : Config → Look
look_of c = record {
  tasks = c.agenda;
  busy = map (λ (b : Binding). b.busy) c.world.bindings;
  held = map (λ (o : Option Object). option_map held_of o) c.world.objects;
}

-- In a run of an accepted definition, behind some events, so many steps lead from where a request's dispatch begins to a configuration that looks
-- so. What each step is to keep holds there, within the bound of the request's entry and the depth.
pub record Amid (d : Definition) (peers : List Peer) (before : List Event) (r : Request) (steps : ℕ) (look : Look) : Type 0 where
  pub well : WellRead d
  pub accepted : Accepted d
  pub ready : PoolReady d peers
  pub world : World
  pub serves : Serves d peers (before ++ request r ∷ []) (request r) world
  pub at : Config
  pub reached : after steps d (of_request world r) ≡ Ok at
  pub looks : look_of at ≡ look
  pub good : (a : Accepted d) → IsGood d a (bound_of d a (entry_of d r)) at

-- what `Amid` says, of the build of an accepted definition
pub record AmidBuild (d : Definition) (peers : List Peer) (steps : ℕ) (look : Look) : Type 0 where
  pub well : WellRead d
  pub accepted : Accepted d
  pub ready : PoolReady d peers
  pub at : Config
  pub reached : after steps d (of_build d peers) ≡ Ok at
  pub looks : look_of at ≡ look
  pub good : (a : Accepted d) → IsGood d a (bound_of d a entries.build) at

-- ** tasks

-- nothing is held back
abbrev pub free : Option Held
free = Some (record { freezes = 0; queue = [] })

-- an object, as a register holds it
abbrev pub ref : ℕ → Option Value
ref id = Some (values.object (Some id))

abbrev pub number : ℕ → Option Value
number n = Some (values.whole int (pos n))

-- the notification of a property
abbrev pub notified : ℕ → List ℕ → Emission
notified object property = record { object = object; signal = 0; detail = Some property; args = []; by_event = false; value = None; cleanup = false }

-- an emission that an event asked for
abbrev pub emitted : ℕ → ℕ → List Value → Emission
emitted object signal args = record { object = object; signal = signal; detail = None; args = args; by_event = true; value = None; cleanup = false }

-- an emission that a program asked for
abbrev pub by_program : ℕ → ℕ → Emission
by_program object signal = record { object = object; signal = signal; detail = None; args = []; by_event = false; value = None; cleanup = false }

-- a program at an instruction of a block, which has so many passes left
abbrev pub running : (program block at passes : ℕ) → List (Option Value) → Task
running program block at passes registers =
    Running (record { program = program; block = block; at = at; passes = passes; into = None; registers = registers })

-- ** a transfer is due

-- The pair has set `b` and is still busy, the program that `b` runs makes a spare, the construction of the spare goes on, and its program has
-- set the amount of `b`. Now the transfer of the other binding is due.
abbrev pub at_transfer : Look
at_transfer = record {
  tasks =
      Transferring 1 false
      ∷ Emitting (notified 2 (codes "amount")) []
      ∷ running 0 2 2 1 (ref 5 ∷ ref 2 ∷ number 5 ∷ [])
      ∷ Constructing 5 (thaws ∷ []) false
      ∷ running 1 0 1 1 (ref 2 ∷ ref 5 ∷ [])
      ∷ Emitting (notified 2 (codes "on")) []
      ∷ Unsetting 0
      ∷ Emitting (notified 1 (codes "on")) []
      ∷ [];
  busy = true ∷ false ∷ [];
  held = free ∷ free ∷ free ∷ free ∷ Some (record { freezes = 1; queue = [] }) ∷ [];
}

-- ** the build has come to a construction

-- The builder's own construction goes on. Its program has set the amount of `b`, which is to be notified, and nothing is bound yet.
abbrev pub at_construction : Look
at_construction = record {
  tasks =
      Notifying 2 1
      ∷ running 0 2 2 1 (ref 4 ∷ ref 2 ∷ number 5 ∷ [])
      ∷ Constructing 4 (thaws ∷ []) true
      ∷ Building (adopts 3 ∷ binds 0 ∷ binds 1 ∷ connects 1 0 ∷ [])
      ∷ [];
  busy = [];
  held = free ∷ free ∷ free ∷ Some (record { freezes = 1; queue = [] }) ∷ [];
}

-- ** a block is passed for the second time

-- two of three passes are left, this one counted, and the property that it has set is to be notified
abbrev pub at_second_pass : Look
at_second_pass = record {
  tasks = Notifying 1 0 ∷ running 0 1 2 2 (ref 1 ∷ number 1 ∷ number 2 ∷ []) ∷ Emitting (emitted 1 1 []) [] ∷ [];
  busy = [];
  held = free ∷ [];
}

-- ** an end of a pair is frozen

-- the pair has set the frozen end, whose notification waits, and is still busy
abbrev pub at_frozen : Look
at_frozen = record {
  tasks =
      Unsetting 0
      ∷ Emitting (notified 1 (codes "on")) []
      ∷ running 0 2 3 1 (ref 1 ∷ ref 2 ∷ Some (values.bool true) ∷ [])
      ∷ Emitting (emitted 1 1 (values.object (Some 2) ∷ [])) []
      ∷ [];
  busy = true ∷ [];
  held = free ∷ Some (record { freezes = 1; queue = 0 ∷ [] }) ∷ [];
}

-- ** a call is due

-- the peer of the item is asked to add 2; nothing but what runs holds the item any more
abbrev pub at_call : Look
at_call = record {
  tasks =
      Calling (record { object = 2; peer = 0; method = 0; args = values.whole int64 (pos 2) ∷ []; to = 2 })
      ∷ running 2 0 2 1 (ref 2 ∷ Some (values.whole int64 (pos 2)) ∷ None ∷ [])
      ∷ Emitting (by_program 2 1) []
      ∷ running 3 2 1 1 (ref 1 ∷ ref 2 ∷ [])
      ∷ Emitting (emitted 1 2 []) []
      ∷ [];
  busy = [];
  held = free ∷ free ∷ [];
}

-- the definition with the pair is judged so; the others are accepted examples of their own
pub record Middles : Type 0 where
  pub judged : verdict gathering.definition ≡ accepted gathering.told
  pub construction : AmidBuild gathering.definition [] 19 at_construction
  pub transfer : Amid gathering.definition [] [] (set 0 0 (value (values.bool true))) 18 at_transfer
  pub second_pass : Amid repeated_block.definition [] [] (emit 0 1 [] None) 14 at_second_pass
  pub frozen : Amid frozen_target.definition [] [] (emit 0 1 (named 1 ∷ []) None) 12 at_frozen
  pub call : Amid last_reference.definition (tally ∷ []) (request (emit 0 1 [] None) ∷ []) (emit 0 2 [] None) 17 at_call
