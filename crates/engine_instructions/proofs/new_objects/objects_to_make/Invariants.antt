use Rattle.std.proofs.Common.{◌≡◌, ◌≤◌, ◌+◌, drop, map, min}
use Rattle.ui_machine.specs.Rules.Build.{to_make}
use Rattle.engine_stack.specs.TaskView.{task_of}
use Rattle.engine_instructions.proofs.new_objects.objects_to_make.Given as goal

abbrev pub invariant-loop-task : goal.invariant-loop-task
invariant-loop-task l =
    record {
      fits : l.count ≤ 4294967295;
      same :
          min (l.count + to_make (map (task_of l.definition l.engine.world.handlers.handlers) (drop l.task-index l.build))) 4294967295
          ≡ min (to_make (map (task_of l.definition l.engine.world.handlers.handlers) l.build)) 4294967295;
    }
