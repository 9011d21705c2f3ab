-- What a task holds is its object, and what an emission was given.
use Rattle.std.proofs.Common.{◌≡◌, ℕ, ◌+◌, List, refl, arith}
use Rattle.ui_machine.specs.Definition.{Definition}
use Rattle.ui_machine.specs.State.Handlers.{Handler}
use Rattle.ui_machine.specs.State.References.{in_task}
use Rattle.engine_stack.specs.declared.task.Task.{Task}
use Rattle.engine_stack.specs.declared.task.Task.TheVariants as tasks
use Rattle.engine_stack.specs.HeldByTasks.{in_given, in_subject}
use Rattle.engine_stack.specs.TaskView.{task_of}

pub parts : (d : Definition) (hs : List Handler) (t : Task) (o : ℕ) → in_task o (task_of d hs t) ≡ in_subject o (task_of d hs t) + in_given o (task_of d hs t)
parts d hs (tasks.Setting id slot x) o = omega arith
parts d hs (tasks.Notifying id slot) o = omega arith
parts d hs (tasks.Beginning emission) o = refl
parts d hs (tasks.Emitting emission) o = refl
parts d hs (tasks.Running frame) o = omega arith
parts d hs (tasks.Thawing id slots) o = omega arith
parts d hs (tasks.Constructing construction) o = omega arith
parts d hs (tasks.Building place forwards) o = omega arith
parts d hs (tasks.Adopting place forwards) o = omega arith
parts d hs (tasks.Transferring number back) o = omega arith
parts d hs (tasks.Unsetting number) o = omega arith
parts d hs (tasks.Binding number) o = omega arith
parts d hs (tasks.Connecting place number) o = omega arith
parts d hs (tasks.Answering source) o = omega arith
parts d hs (tasks.Calling call) o = refl
parts d hs (tasks.Due source) o = omega arith
parts d hs (tasks.Handling event) o = omega arith

-- whatever the definition is, and the handlers
pub task_alike : (d e : Definition) (hs gs : List Handler) (t : Task) (o : ℕ) → in_task o (task_of d hs t) ≡ in_task o (task_of e gs t)
task_alike d e hs gs (tasks.Setting id slot x) o = refl
task_alike d e hs gs (tasks.Notifying id slot) o = refl
task_alike d e hs gs (tasks.Beginning emission) o = refl
task_alike d e hs gs (tasks.Emitting emission) o = refl
task_alike d e hs gs (tasks.Running frame) o = refl
task_alike d e hs gs (tasks.Thawing id slots) o = refl
task_alike d e hs gs (tasks.Constructing construction) o = refl
task_alike d e hs gs (tasks.Building place forwards) o = refl
task_alike d e hs gs (tasks.Adopting place forwards) o = refl
task_alike d e hs gs (tasks.Transferring number back) o = refl
task_alike d e hs gs (tasks.Unsetting number) o = refl
task_alike d e hs gs (tasks.Binding number) o = refl
task_alike d e hs gs (tasks.Connecting place number) o = refl
task_alike d e hs gs (tasks.Answering source) o = refl
task_alike d e hs gs (tasks.Calling call) o = refl
task_alike d e hs gs (tasks.Due source) o = refl
task_alike d e hs gs (tasks.Handling event) o = refl
