use Rattle.std.proofs.Common.{◌≡◌, ◌≤◌, length, drop, map}
use Rattle.ui_machine.specs.State.Bindings.{transfers}
use Rattle.bindings.specs.Due.{entry_of}
use Rattle.bindings.proofs.list.put_due.Given as goal

abbrev pub invariant-bindings : goal.invariant-bindings
invariant-bindings l = record {
  within : l.left ≤ length l.bound;
  taken : map entry_of l.due ≡ transfers l.object.0 l.slot (drop l.left l.bound);
}

abbrev pub decreases-bindings : goal.decreases-bindings
decreases-bindings l = l.left
