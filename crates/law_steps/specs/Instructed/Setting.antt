-- The instruction that sets a property.
use Rattle.std.specs.Prelude.{◌≡◌, ℕ, ◌≤◌, List, None, Some}
use Rattle.ui_machine.specs.Definition.{Definition}
use Rattle.ui_machine.specs.Definition.Programs.{Instruction}
use Rattle.ui_machine.specs.Definition.Programs as words
use Rattle.ui_machine.specs.State.Tasks.{Frame, Task}
use Rattle.ui_machine.specs.State.Config.{World}
use Rattle.ui_machine.specs.State.References.{next_unheld, mentions}
use Rattle.ui_machine.specs.Instructions.{running}
use Rattle.ui_machine.specs.Steps.{most_steps, counted_left}
use Rattle.law_typing.specs.Graph.{graph}
use Rattle.law_typing.specs.Graph.Depths.{depth}
use Rattle.law_typing.specs.Verdict.Accepted.{Accepted}
use Rattle.law_typing.specs.Laws.WellRead.{WellRead}
use Rattle.law_typing.specs.Laws.StepsKeepGood.{IsGood, Fine}
use Rattle.law_steps.specs.Instructed.Running.{instruction_at, at_top}

-- The same of an instruction that is taken where nothing is to be finalised first. A step takes no other, since what nothing holds is finalised
-- before anything else; and what is good says of a due set that nothing is.
abbrev pub IsFineWhereHeld : Instruction → Type 0
IsFineWhereHeld i =
    (d : Definition) → WellRead d → (a : Accepted d) → (most_counted : ℕ) → most_counted ≤ most_steps → (w : World) (f : Frame)
    (rest : List Task) (n : ℕ) → IsGood d a most_counted (at_top w f rest n) → instruction_at d f ≡ Some i →
    next_unheld (mentions d (at_top w f rest n)) w.objects ≡ None →
    Fine d a.weighed.costs a.weighed.depths most_counted (depth (graph d) a.weighed.depths) (counted_left n (running d w rest f))

-- it is taken well
abbrev pub SetsAreFine : Type 0
SetsAreFine = (object : ℕ) (name : List ℕ) (from : ℕ) → IsFineWhereHeld (words.set object name from)
