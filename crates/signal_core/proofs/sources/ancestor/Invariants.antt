use Rattle.std.proofs.Common.{◌≡◌, Some}
use Rattle.signal_core.specs.Sources.{ancestor_of}
use Rattle.signal_core.proofs.sources.ancestor.Given as goal

abbrev pub invariant-loop-above : goal.invariant-loop-above
invariant-loop-above l = ancestor_of l.tree l.fn.t l._above ≡ Some l.class
