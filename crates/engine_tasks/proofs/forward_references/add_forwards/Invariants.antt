use Rattle.std.proofs.Common.{◌≡◌, ◌≤◌, ◌++◌, drop, length, map}
use Rattle.std.specs.List.{flat_map}
use Rattle.ui_machine.specs.Rules.Build.{forward_of}
use Rattle.definition_format.specs.Meaning.{given_property}
use Rattle.engine_stack.specs.TaskView.{items_of}
use Rattle.engine_tasks.proofs.forward_references.add_forwards.Given as goal

abbrev pub invariant-entries : goal.invariant-entries
invariant-entries l = record {
  within : l.left ≤ length l.given;
  items : items_of l.forwards.items ≡ flat_map (forward_of l.object.0) (map given_property (drop l.left l.given)) ++ items_of l.fn.forwards.items;
}

abbrev pub decreases-entries : goal.decreases-entries
decreases-entries l = l.left
