use Rattle.std.proofs.Common.{◌≡◌, ◌+◌, ◌<◌, ◌^◌, count_by, not}
use Rattle.std.specs.List.{AllByRecursion, filter}
use Rattle.ui_machine.specs.State.Bindings.{is_end}
use Rattle.bindings.proofs.Stepping.{Below}
use Rattle.bindings.proofs.rising.Rising.end_of.Given as goal

abbrev pub invariant-bindings : goal.invariant-bindings
invariant-bindings l = record {
  counted : count_by (is_end l.fn.object.0) l.fn.self ≡ l.count + count_by (is_end l.fn.object.0) l.self;
  others : filter (λ b. not (is_end l.fn.object.0 b)) l.self ≡ filter (λ b. not (is_end l.fn.object.0 b)) l.fn.self;
  below : AllByRecursion (Below (is_end l.fn.object.0) l.at) l.self;
  few : count_by (is_end l.fn.object.0) l.fn.self < 2 ^ 63;
}

abbrev pub decreases-bindings : goal.decreases-bindings
decreases-bindings l = l.at
