use Rattle.std.proofs.Common.{◌≡◌, ◌||◌, ℕ, List, take}
use Rattle.std.specs.List.{list_any}
use Rattle.read_types.specs.ImplementDrafts.{has_name}
use Rattle.read_types.proofs.SignalNames.{is_called}
use Rattle.read_types.proofs.signal_names.add_listed.Given as goal

abbrev pub invariant-loop-signal : goal.invariant-loop-signal
invariant-loop-signal l = (name : List ℕ) → has_name l.names name ≡ (has_name l.initial.names name || list_any (is_called name) (take l.signal-index l.signals))
