use Rattle.std.proofs.Common.{◌≡◌, ◌||◌, ℕ, List, take}
use Rattle.std.specs.List.{list_any}
use Rattle.signal_core.specs.Sources.{own_of}
use Rattle.read_types.specs.ImplementDrafts.{has_name}
use Rattle.signal_core.specs.Owners.{has_signal}
use Rattle.read_types.specs.SignalNames.{AreIncluded}
use Rattle.read_types.proofs.signal_names.add_brought.Given as goal

abbrev pub invariant-loop-interface : goal.invariant-loop-interface
invariant-loop-interface l =
    record {
      names : (name : List ℕ) → has_name l.names name
          ≡ (has_name l.initial.names name || list_any (λ u. has_signal (own_of l.signals.signals u) name) (take l.interface-index l.interface-items));
      seen : AreIncluded l.signals.signals l.seen l.names;
    }
