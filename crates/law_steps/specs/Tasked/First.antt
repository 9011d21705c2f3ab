-- The step that takes the first task, where nothing is to be finalised before it: what it is to keep.
use Rattle.std.specs.Prelude.{⊤, ◌≡◌, ℕ, ◌≤◌, List, ◌∷◌, Option, None}
use Rattle.ui_machine.specs.Definition.{Definition}
use Rattle.ui_machine.specs.State.Peers.{Reply}
use Rattle.ui_machine.specs.State.References.{mentions, next_unheld}
use Rattle.ui_machine.specs.State.Tasks.{Task}
use Rattle.ui_machine.specs.State.Config.{World, Config}
use Rattle.ui_machine.specs.Steps.{step, most_steps}
use Rattle.law_typing.specs.Graph.{graph}
use Rattle.law_typing.specs.Graph.Depths.{depth}
use Rattle.law_typing.specs.Verdict.Accepted.{Accepted}
use Rattle.law_typing.specs.Laws.WellRead.{WellRead}
use Rattle.law_typing.specs.Laws.StepsKeepGood.{IsGood, Fine, Replies}

-- the task is the first one
abbrev pub at_first : World → Task → List Task → ℕ → Config
at_first w task rest n = record { world = w; agenda = task ∷ rest; counted = n }

-- From what is good, the step that takes a task like this is not stuck, and leads to what is good within the same bound. Here what lies
-- below is of some sort.
abbrev pub IsFineAbove : (List Task → Type 0) → Task → Type 0
IsFineAbove Sort task =
    (d : Definition) → WellRead d → (a : Accepted d) → (most_counted : ℕ) → most_counted ≤ most_steps → (w : World) (rest : List Task)
    (n : ℕ) → Sort rest → IsGood d a most_counted (at_first w task rest n) → next_unheld (mentions d (at_first w task rest n)) w.objects ≡ None →
    (reply : Option Reply) → Replies d (at_first w task rest n) reply →
    Fine d a.weighed.costs a.weighed.depths most_counted (depth (graph d) a.weighed.depths) (step d reply (at_first w task rest n))

-- and here it is whatever it may be
abbrev pub IsFine : Task → Type 0
IsFine task = IsFineAbove (λ rest. ⊤) task
