use Rattle.std.proofs.Common.{◌≡◌, take}
use Rattle.ui_verifier.specs.Bounds.{with_objects}
use Rattle.ui_verifier.proofs.bounds.bounds_of.Given as goal

abbrev pub invariant-loop-cost : goal.invariant-loop-cost
invariant-loop-cost l = l.bounds.items ≡ with_objects l.objects (take l.cost-index l.costs)
