-- Each task, within its steps and frames, and the agenda, which splits the budget.
use Rattle.std.specs.Prelude.{◌≡◌, Bool, true, ℕ, ◌+◌, ◌≤◌, List, [], ◌∷◌, Some}
use Rattle.ui_machine.specs.Seq.{total}
use Rattle.ui_machine.specs.Definition.{Definition}
use Rattle.ui_machine.specs.State.Sources.{Source}
use Rattle.ui_machine.specs.State.Tasks.{Item, Task, Setting, Notifying, Beginning, Emitting, Transferring, Unsetting, Thawing, Running, Answering, Calling, Constructing, Building, Handling, Due}
use Rattle.law_typing.specs.Graph.Tables.{Tables, of_program}
use Rattle.law_typing.specs.Verdict.Accepted.{Each}
use Rattle.law_typing.specs.Good.Standing.{View}
use Rattle.law_typing.specs.Good.ComingDown.{Down, down, Answers, TakesNone}
use Rattle.law_typing.specs.Good.Programs.{RunningGood, CallingGood}
use Rattle.law_typing.specs.Good.Emissions.{SettingGood, NotifyingGood, TransferringGood, EmittingGood, BeginningGood, ThawingGood}
use Rattle.law_typing.specs.Good.Builds.{ConstructingGood, item_cost, item_depth}
use Rattle.law_typing.specs.Good.Requests.{CarryingGood}
use Rattle.ui_machine.specs.State.Sources as sources

-- The build alone lies below what the builder makes.
abbrev pub OnBuild : (held : Bool) → (below : List Task) → Type 0
OnBuild held below = held ≡ true → (items : List Item) × (below ≡ Building items ∷ [])

-- Each task, above these, with what comes down to it. Nothing lies below the build, a request or a due source.
abbrev pub TaskGood : Definition → Tables → Tables → View → Down → List Task → Task → ℕ → ℕ → Type 0
TaskGood d costs depths w up below (Setting id slot v) steps frames = TakesNone up
    × SettingGood d costs depths (w.stands) below id slot v steps frames
TaskGood d costs depths w up below (Notifying id slot) steps frames = TakesNone up
    × NotifyingGood d costs depths w.stands below id slot steps frames
TaskGood d costs depths w up below (Beginning e) steps frames = TakesNone up × BeginningGood d costs depths (w.stands) e steps frames
TaskGood d costs depths w up below (Emitting e turns) steps frames = EmittingGood d costs depths w up below e turns steps frames
TaskGood d costs depths w up below (Transferring number back) steps frames =
    TakesNone up × TransferringGood d costs depths w below number back steps frames
TaskGood d costs depths w up below (Unsetting number) steps frames = TakesNone up
TaskGood d costs depths w up below (Thawing id slots) steps frames =
    TakesNone up × ThawingGood d costs depths (w.stands) below id slots steps frames
TaskGood d costs depths w up below (Running frame) steps frames =
    TakesNone up × RunningGood d costs depths (w.stands) up frame steps frames
TaskGood d costs depths w up below (Answering source) steps frames = Answers d up
TaskGood d costs depths w up below (Calling call) steps frames = TakesNone up × CallingGood d w below call
TaskGood d costs depths w up below (Constructing id todo held) steps frames =
    TakesNone up × ConstructingGood d costs depths w id todo held steps frames × OnBuild held below
TaskGood d costs depths w up below (Building items) steps frames =
    TakesNone up × (below ≡ []) × (total (item_cost d costs) items ≤ steps) × Each (λ item. item_depth d depths item ≤ frames) items
TaskGood d costs depths w up below (Handling request) steps frames =
    TakesNone up × (below ≡ []) × CarryingGood d costs depths w request steps frames
TaskGood d costs depths w up below (Due source) steps frames =
    TakesNone up × (below ≡ []) × ((s : Source) × (sources.source_of source w.sources ≡ Some s) × (of_program costs s.program ≤ steps)
    × (of_program depths s.program ≤ frames))

-- a frame is the rest of a program, an emission or a construction
abbrev pub is_frame : Task → ℕ
is_frame (Running frame) = 1
is_frame (Emitting e turns) = 1
is_frame (Constructing id todo held) = 1
is_frame _ = 0

abbrev pub frames : List Task → ℕ
frames agenda = total is_frame agenda

-- The budget is split along the agenda: each task has its steps, and its frames lie on those of the tasks below.
abbrev pub AgendaGood : Definition → Tables → Tables → View → (most : ℕ) → Down → List Task → (budget : ℕ) → Type 0
AgendaGood d costs depths w most up [] budget = TakesNone up
AgendaGood d costs depths w most up (task ∷ below) budget =
    (steps deep left : ℕ) × TaskGood d costs depths w up below task steps deep × (frames below + deep ≤ most) × (steps + left ≤ budget)
    × AgendaGood d costs depths w most (down d w task) below left
