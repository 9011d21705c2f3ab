use Rattle.std.proofs.Common.{◌≡◌, ℕ, ◌+◌, nat_lt, drop, map}
use Rattle.ui_machine.specs.Rules.Build.{to_connect}
use Rattle.ui_machine.specs.Rules.Connections.{greatest_handler}
use Rattle.engine_stack.specs.TaskView.{task_of}
use Rattle.engine_world.proofs.connections.has_handler_number.Given as goal

abbrev pub invariant-loop-task : goal.invariant-loop-task
invariant-loop-task l =
    (more : ℕ) → nat_lt (l.taken + to_connect (map (task_of l.definition l.engine.world.handlers.handlers) (drop l.task-index l.build)) + more) greatest_handler
    ≡ nat_lt (l.engine.world.handlers.last + to_connect (map (task_of l.definition l.engine.world.handlers.handlers) l.build) + more) greatest_handler
