use Rattle.std.proofs.Common.{[], List, map, ap, arith}
use Rattle.ui_machine.specs.Seq.{total}
use Rattle.ui_machine.specs.State.References.{in_value}
use Rattle.g_values.specs.View.{value_view}
use Rattle.g_values.specs.declared.value.Value.{Value}
use Rattle.engine_stack.specs.HeldByTasks.{in_given}
use Rattle.engine_stack.specs.TaskView.{task_of}
use Rattle.engine_stack.specs.declared.task.Task as code
use Rattle.engine_world.proofs.Held.{any, may_less}
use Rattle.engine_world.proofs.references.hold_given.Goals as goal

pub hold_values-requires : goal.hold_values-requires
hold_values-requires c = record {
  may =
      may_less c.args.table.now _ _ (λ o. let same = ap (λ (t : code.Task). in_given o (task_of any [] t)) c.in-Beginning.is in let items = ap (λ (vs : List Value). total (in_value o) (map value_view vs)) c.as_slice.ensures.value in omega (arith, same, items)) (c.requires.may any []);
}

pub hold_values-requires-in-Calling : goal.hold_values-requires-in-Calling
hold_values-requires-in-Calling c = record {
  may =
      may_less c.args.table.now _ _ (λ o. let same = ap (λ (t : code.Task). in_given o (task_of any [] t)) c.in-Calling.is in let items = ap (λ (vs : List Value). total (in_value o) (map value_view vs)) c.as_slice-in-Calling.ensures.value in omega (arith, same, items)) (c.requires.may any []);
}
