use Rattle.std.proofs.Common.{◌≡◌, ◌++◌}
use Rattle.ui_machine.specs.Seq.{listed}
use Rattle.signal_core.specs.SignalRows.{own_place}
use Rattle.signal_core.proofs.signal_rows.add_places.Given as goal

abbrev pub invariant-loop-at : goal.invariant-loop-at
invariant-loop-at l = l.places.items ≡ l.initial.places.items ++ listed (own_place l.t) l.at
