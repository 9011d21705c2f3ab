use Rattle.std.proofs.Common.{◌≡◌, ◌++◌, map}
use Rattle.std.specs.List.{filter}
use Rattle.ui_machine.specs.State.Bindings.{listens}
use Rattle.bindings.specs.Due.{due_of}
use Rattle.bindings.proofs.Stepping.{from_on}
use Rattle.bindings.proofs.rising.Rising.put_due.Given as goal

abbrev pub invariant-bindings : goal.invariant-bindings
invariant-bindings l = l.due ≡ map (due_of l.object.0 l.slot) (filter (from_on (listens l.object.0 l.slot) l.at) l.self) ++ l.fn.due

abbrev pub decreases-bindings : goal.decreases-bindings
decreases-bindings l = l.at
