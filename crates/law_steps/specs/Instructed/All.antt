-- All instructions: where the first task is a program, whatever it has come to, the step keeps what is good.
use Rattle.std.specs.Prelude.{ℕ, ◌≤◌, List, Option}
use Rattle.ui_machine.specs.Definition.{Definition}
use Rattle.ui_machine.specs.Definition.Programs.{Instruction}
use Rattle.ui_machine.specs.State.Peers.{Reply}
use Rattle.ui_machine.specs.State.Tasks.{Frame, Task}
use Rattle.ui_machine.specs.State.Config.{World}
use Rattle.ui_machine.specs.Steps.{step, most_steps}
use Rattle.law_typing.specs.Graph.{graph}
use Rattle.law_typing.specs.Graph.Depths.{depth}
use Rattle.law_typing.specs.Verdict.Accepted.{Accepted}
use Rattle.law_typing.specs.Laws.WellRead.{WellRead}
use Rattle.law_typing.specs.Laws.StepsKeepGood.{IsGood, Fine}
use Rattle.law_steps.specs.Instructed.Running.{at_top}
use Rattle.law_steps.specs.Instructed.Setting.{IsFineWhereHeld}

-- each instruction is taken well where nothing is to be finalised first, as steps take it
abbrev pub InstructionsAreFine : Type 0
InstructionsAreFine = (i : Instruction) → IsFineWhereHeld i

-- So the step of the machine is not stuck, and leads to what is good within the same bound, from each configuration that is good and whose
-- first task is a program. It takes the instruction that the program has come to, or finalises an object first.
abbrev pub ProgramsKeepGood : Type 0
ProgramsKeepGood =
    (d : Definition) → WellRead d → (a : Accepted d) → (most_counted : ℕ) → most_counted ≤ most_steps → (w : World) (f : Frame)
    (rest : List Task) (n : ℕ) → IsGood d a most_counted (at_top w f rest n) → (reply : Option Reply) →
    Fine d a.weighed.costs a.weighed.depths most_counted (depth (graph d) a.weighed.depths) (step d reply (at_top w f rest n))
