-- The tasks of the build.
use Rattle.std.specs.Prelude.{Bool, true, false}
use Rattle.engine_stack.specs.declared.task.Task.{Task}
use Rattle.engine_stack.specs.declared.task.Task.TheVariants as tasks

-- whether a task is the rest of the build
abbrev pub is_of_build : Task → Bool
is_of_build (tasks.Building place forwards) = true
is_of_build (tasks.Adopting place forwards) = true
is_of_build (tasks.Binding number) = true
is_of_build (tasks.Connecting place number) = true
is_of_build _ = false
