-- A dispatch that has taken the most counted steps.
use Rattle.std.specs.Prelude.{◌≡◌, ℕ, List, ◌∷◌, None, Err}
use Rattle.ui_machine.specs.declared.arm.Arm.TheVariants as arms
use Rattle.ui_machine.specs.State.Config.{World}
use Rattle.ui_machine.specs.State.Tasks.{Notifying, Task}
use Rattle.ui_machine.specs.Steps.{most_steps, act}
use Rattle.ui_machine.specs.Definition.{Definition}

-- one more counted step is not taken
abbrev pub NoFurtherStep : Type 0
NoFurtherStep =
    (d : Definition) (w : World) (object slot : ℕ) (rest : List Task)
    → act d w None (Notifying object slot ∷ rest) most_steps ≡ Err arms.Steps
