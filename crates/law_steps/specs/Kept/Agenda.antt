-- What the agenda reads of a world, and that it stays good where that stays, with the same steps and frames.
use Rattle.std.specs.Prelude.{◌≡◌, ◌⊎◌, ℕ, ◌+◌, ◌<◌, ◌≤◌, List, Some, slice_get}
use Rattle.ui_machine.specs.Seq.{read, total}
use Rattle.ui_machine.specs.Definition.{Definition}
use Rattle.ui_machine.specs.State.Handlers.{Handler, handler_of}
use Rattle.ui_machine.specs.State.Bindings.{Binding, binding_of}
use Rattle.ui_machine.specs.State.Peers.{Peer}
use Rattle.ui_machine.specs.State.Config.{unbuilt, built}
use Rattle.ui_machine.specs.State.Tasks.{Task, Setting}
use Rattle.ui_machine.specs.State.References.{same, in_value, in_task}
use Rattle.law_typing.specs.Graph.Tables.{Tables}
use Rattle.law_typing.specs.Good.Standing.{Standing, View}
use Rattle.law_typing.specs.Good.ComingDown.{Down}
use Rattle.law_typing.specs.Good.Agenda.{AgendaGood}
use Rattle.law_typing.specs.Good.Freezes.{is_due_source}

-- an identity keeps its place, if it had one
abbrev pub Stays : Standing → Standing → ℕ → Type 0
Stays s z id = (place : ℕ) → s id ≡ Some place → z id ≡ Some place

-- each identity that is counted does
abbrev pub Keeps : Standing → Standing → (ℕ → ℕ) → Type 0
Keeps s z counted = (id : ℕ) → 0 < counted id → Stays s z id

-- how often a task needs an object to be there: as often as it holds it, and a due set needs its value as well
abbrev pub needed : ℕ → Task → ℕ
needed o (Setting object slot v) = same o object + in_value o v
needed o task = in_task o task

-- a world that serves an agenda as well as another one
pub record Serves (d : Definition) (agenda : List Task) (v z : View) : Type 0 where
  -- what the agenda needs and what the builder holds keeps its place
  pub stands : Keeps v.stands z.stands (λ o. total (needed o) agenda)
  pub held : (place id : ℕ) → read unbuilt v.builder place ≡ built id → Stays v.stands z.stands id
  pub builder : z.builder ≡ v.builder
  -- a handler of an earlier number was there, and is of the same object, signal and program
  pub last : v.last_handler ≤ z.last_handler
  pub handlers : (number : ℕ) → number ≤ v.last_handler → (h : Handler) → handler_of number z.handlers ≡ Some h →
      (g : Handler) × (handler_of number v.handlers ≡ Some g) × (h.object ≡ g.object) × (h.signal ≡ g.signal) × (h.program ≡ g.program)
  -- a binding that is there was there, as it is
  pub bindings : (number : ℕ) (b : Binding) → binding_of number z.bindings ≡ Some b → binding_of number v.bindings ≡ Some b
  -- the sources are the same, or none of them is due
  pub sources : (total is_due_source agenda ≡ 0) ⊎ (z.sources ≡ v.sources)
  -- a peer keeps its shape
  pub peers : (number : ℕ) (p : Peer) → slice_get v.peers number ≡ Some p →
      (q : Peer) × (slice_get z.peers number ≡ Some q) × (q.state.shape ≡ p.state.shape)

abbrev pub AgendaServed : Type 0
AgendaServed =
    (d : Definition) (costs depths : Tables) (most : ℕ) (up : Down) (agenda : List Task) (budget : ℕ) (v z : View) → Serves d agenda v z →
    AgendaGood d costs depths v most up agenda budget → AgendaGood d costs depths z most up agenda budget
