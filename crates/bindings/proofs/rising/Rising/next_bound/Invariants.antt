use Rattle.std.proofs.Common.{◌-◌, ◌^◌}
use Rattle.std.specs.List.{AllByRecursion}
use Rattle.bindings.proofs.Stepping.{Later}
use Rattle.bindings.proofs.rising.Rising.next_bound.Given as goal

abbrev pub invariant-bindings : goal.invariant-bindings
invariant-bindings l = AllByRecursion (Later l.object.0 l.slot l.from l.at) l.self

abbrev pub decreases-bindings : goal.decreases-bindings
decreases-bindings l = 2 ^ 64 - l.at
