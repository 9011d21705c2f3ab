use Rattle.std.proofs.Common.{◌≡◌, ◌≤◌, drop}
use Rattle.ui_machine.specs.Rules.Build.{forward_items}
use Rattle.definition_format.specs.Meaning.{object_count}
use Rattle.engine_stack.specs.TaskView.{items_of}
use Rattle.engine_tasks.proofs.forward_references.forward_references.Given as goal

abbrev pub invariant-places : goal.invariant-places
invariant-places l = record {
  within : l.left ≤ object_count l.definition;
  items : items_of l.forwards.items ≡ forward_items l.left (drop l.left l.definition.places);
}

abbrev pub decreases-places : goal.decreases-places
decreases-places l = l.left
