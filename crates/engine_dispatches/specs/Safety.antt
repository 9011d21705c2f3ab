-- Configurations from which nothing is ever stuck, each question is apt, all that is named lives, names mean what they mean in the
-- definition, numbers are left, and tasks are few.
use Rattle.std.specs.Prelude.{◌≡◌, ℕ, ◌+◌, ◌*◌, ◌<◌, ◌≤◌, IfSome, IsSomeAnd, None, length, slice_get}
use Rattle.ui_machine.specs.Definition.{Definition}
use Rattle.ui_machine.specs.State.Config.{Config}
use Rattle.ui_machine.specs.State.Peers.{Question}
use Rattle.ui_machine.specs.State.References.{mentions, next_unheld}
use Rattle.ui_machine.specs.Steps.{question}
use Rattle.law_runs.specs.Handlers.{HasHandlerNumbers}
use Rattle.law_runs.specs.Identities.{HasIdentities}
use Rattle.law_steps.specs.Served.Dispatches.{Throughout}
use Rattle.law_runs.specs.Meanings.{HasMeanings}
use Rattle.law_steps.specs.Served.Safe.{Safe}
use Rattle.law_typing.specs.Good.Agenda.{frames}
use Rattle.law_typing.specs.Good.Living.{AllNamesLiving}
use Rattle.engine_dispatches.specs.Following.{Point, Stands}
use Rattle.engine_dispatches.specs.PoolView.{Takes}

-- nothing is to be finalised
abbrev pub NoneUnheld : Definition → Config → Type 0
NoneUnheld d c = next_unheld (mentions d c) c.world.objects ≡ None

-- a question is to a peer that is there, with arguments that its method takes
pub record IsApt (d : Definition) (c : Config) (q : Question) : Type 0 where
  pub there : IsSomeAnd (slice_get c.world.peers q.peer) (λ p. p.state ≡ q.state)
  pub args : Takes d (slice_get q.state.shape q.method) q.args

-- so is that of a configuration, if it asks one
abbrev pub AsksAptly : Definition → Config → Type 0
AsksAptly d c = IfSome (question d c) (IsApt d c)

-- there are identities for what is still to be made, and numbers for the handlers that are still to be connected
pub record HasNumbersLeft (c : Config) : Type 0 where
  pub identities : HasIdentities c
  pub handlers : HasHandlerNumbers c

-- fewer tasks are left than there is room for, and fewer frames than half of that
abbrev pub HasFewTasks : (room : ℕ) → Config → Type 0
HasFewTasks room c = (length c.agenda < room) × (2 * (frames c.agenda + 1) ≤ room)

-- a configuration from which no run is stuck, or has more than so many frames, each question is apt, all that is named lives, names mean
-- what they mean in the definition, there are numbers for what is still to be made and connected, and there are fewer tasks than there is
-- room for
pub record IsSafe (d : Definition) (room : ℕ) (c : Config) : Type 0 where
  pub most : ℕ
  pub safe : Safe d most c
  pub asks : Throughout d c (AsksAptly d)
  pub names : Throughout d c (AllNamesLiving d)
  pub meanings : Throughout d c (HasMeanings d)
  pub numbers : Throughout d c HasNumbersLeft
  pub few : Throughout d c (HasFewTasks room)

-- the point is that of a safe configuration of the machine
pub record ComesOfSafe (d : Definition) (room : ℕ) (p : Point) : Type 0 where
  pub at : Config
  pub safe : IsSafe d room at
  pub stands : Stands p at
