-- What the steps of a construction denote in the machine.
use Rattle.std.specs.Prelude.{List, map, reverse}
use Rattle.ui_machine.specs.State.Tasks as config
use Rattle.g_values.specs.View.{value_view}
use Rattle.engine_stack.specs.declared.task.ConstructStep.{ConstructStep}
use Rattle.engine_stack.specs.declared.task.ConstructStep.TheVariants as makings

abbrev pub making_of_code : ConstructStep → config.ConstructStep
making_of_code (makings.Set slot v) = config.sets slot (value_view v)
making_of_code (makings.Run program) = config.runs program
making_of_code makings.Thaw = config.thaws

-- the steps of a list, the last of which is the first
abbrev pub making_steps : List ConstructStep → List config.ConstructStep
making_steps steps = reverse (map making_of_code steps)
