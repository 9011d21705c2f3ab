-- How the tasks of an agenda lie on one another.
use Rattle.ui_machine.specs.Seq.{total}
use Rattle.std.specs.Prelude.{ℕ, ◌+◌, ◌*◌, ◌≤◌, List, [], ◌∷◌, length}
use Rattle.ui_machine.specs.Definition.{Definition}
use Rattle.ui_machine.specs.Runs.{Reaches, beginning, of_build, of_request}
use Rattle.ui_machine.specs.State.Config.{Config, World}
use Rattle.ui_machine.specs.State.Peers.{Peer, Reply}
use Rattle.ui_machine.specs.State.Tasks.{Answering, Beginning, Building, Calling, Constructing, Due, Emitting, Handling, Notifying, Request, Running, Setting, Task, Thawing, Transferring, Unsetting}
use Rattle.law_typing.specs.Good.Agenda.{frames}

-- the first of these tasks, if there is one, is a frame or the build
abbrev pub BeginsFirmly : List Task → Type 0
BeginsFirmly [] = Unit {0}
BeginsFirmly (Running frame ∷ tasks) = Unit {0}
BeginsFirmly (Emitting e turns ∷ tasks) = Unit {0}
BeginsFirmly (Constructing id steps held ∷ tasks) = Unit {0}
BeginsFirmly (Building items ∷ tasks) = Unit {0}
BeginsFirmly _ = ⊥

-- the first of these tasks makes objects: it is a program or the build
abbrev pub IsMaker : List Task → Type 0
IsMaker (Running frame ∷ tasks) = Unit {0}
IsMaker (Building items ∷ tasks) = Unit {0}
IsMaker _ = ⊥

-- Tasks that lie below another: frames, and between two of them one task at most, which is a binding that stops setting, the rest of a thaw, or
-- a source whose program runs. A construction lies on what makes its object. The build lies at the bottom.
abbrev pub LieBelow : List Task → Type 0
LieBelow [] = Unit {0}
LieBelow (Running frame ∷ tasks) = LieBelow tasks
LieBelow (Emitting e turns ∷ tasks) = LieBelow tasks
LieBelow (Constructing id steps held ∷ tasks) = IsMaker tasks × LieBelow tasks
LieBelow (Unsetting number ∷ tasks) = BeginsFirmly tasks × LieBelow tasks
LieBelow (Thawing id slots ∷ tasks) = BeginsFirmly tasks × LieBelow tasks
LieBelow (Answering source ∷ tasks) = BeginsFirmly tasks × LieBelow tasks
LieBelow (Building items ∷ []) = Unit {0}
LieBelow _ = ⊥

-- An agenda: such tasks, or any other task that lies on them. A transfer and a source that is due lie on a frame or the build, since the
-- binding, or the source, is then to lie there, below what is started.
abbrev pub IsStacked : List Task → Type 0
IsStacked [] = Unit {0}
IsStacked (Setting id slot v ∷ tasks) = LieBelow tasks
IsStacked (Notifying id slot ∷ tasks) = LieBelow tasks
IsStacked (Beginning e ∷ tasks) = LieBelow tasks
IsStacked (Transferring number back ∷ tasks) = BeginsFirmly tasks × LieBelow tasks
IsStacked (Calling call ∷ tasks) = LieBelow tasks
IsStacked (Handling request ∷ tasks) = LieBelow tasks
IsStacked (Due source ∷ tasks) = BeginsFirmly tasks × LieBelow tasks
IsStacked tasks = LieBelow tasks

-- 1 where a task is the rest of a program, or of a construction
abbrev pub is_program : Task → ℕ
is_program (Running frame) = 1
is_program _ = 0

abbrev pub is_construction : Task → ℕ
is_construction (Constructing id steps held) = 1
is_construction _ = 0

abbrev pub programs : List Task → ℕ
programs agenda = total is_program agenda

abbrev pub constructions : List Task → ℕ
constructions agenda = total is_construction agenda

-- ** what is so of them

-- an agenda is no longer than twice its frames, and three
abbrev pub StackedAreShort : Type 0
StackedAreShort = (agenda : List Task) → IsStacked agenda → length agenda ≤ 2 * frames agenda + 3

-- there are no more constructions than programs, and one; so of an agenda's frames every second one at most is a construction
abbrev pub ConstructionsAreFew : Type 0
ConstructionsAreFew =
    (agenda : List Task) → IsStacked agenda →
    (constructions agenda ≤ programs agenda + 1) × (2 * constructions agenda ≤ frames agenda + 1)

-- what begins is stacked
abbrev pub BuildsAreStacked : Type 0
BuildsAreStacked = (d : Definition) (peers : List Peer) → IsStacked (of_build d peers).agenda

abbrev pub RequestsAreStacked : Type 0
RequestsAreStacked = (w : World) (r : Request) → IsStacked (of_request w r).agenda

abbrev pub SourcesAreStacked : Type 0
SourcesAreStacked = (w : World) (number : ℕ) → IsStacked (beginning w (Due number)).agenda

-- and that stays, whatever peers reply
abbrev pub StacksLast : Type 0
StacksLast = (d : Definition) (replies : List Reply) (c e : Config) → Reaches d replies c e → IsStacked c.agenda → IsStacked e.agenda
