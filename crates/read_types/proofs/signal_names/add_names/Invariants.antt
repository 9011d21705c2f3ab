use Rattle.std.proofs.Common.{◌≡◌, ◌||◌, ℕ, List}
use Rattle.read_types.specs.ImplementDrafts.{has_name}
use Rattle.read_types.specs.SignalNames.{AreIncluded}
use Rattle.read_types.proofs.SignalNames.{is_in_line}
use Rattle.read_types.proofs.signal_names.add_names.Given as goal

abbrev pub invariant-line : goal.invariant-line
invariant-line l =
    record {
      names : (name : List ℕ) → (has_name l.names name || is_in_line l.types l.signals.signals name l.class)
          ≡ (has_name l.initial.names name || is_in_line l.types l.signals.signals name l.fn.t);
      seen : AreIncluded l.signals.signals l.seen l.names;
    }

abbrev pub decreases-line : goal.decreases-line
decreases-line l = l.class
