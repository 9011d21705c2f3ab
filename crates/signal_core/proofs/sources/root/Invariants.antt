use Rattle.std.proofs.Common.{◌≡◌, ◌+◌, ◌≤◌, Some}
use Rattle.signal_core.specs.Sources.{ancestor_of}
use Rattle.signal_core.proofs.sources.root.Given as goal

abbrev pub invariant-line : goal.invariant-line
invariant-line l =
    record {
      above : ancestor_of l.tree l.fn.t l.height ≡ Some l.class;
      few : l.height + l.class ≤ l.fn.t;
    }

abbrev pub decreases-line : goal.decreases-line
decreases-line l = l.class
