use Rattle.std.proofs.Common.{◌≡◌, ◌<◌, [], ℕ, length, map}
use Rattle.ui_machine.specs.Seq.{read}
use Rattle.signal_core.specs.SignalRows.{AreFew, ArePlaces}
use Rattle.signal_core.specs.Sources.{declared_of}
use Rattle.signal_core.proofs.signal_rows.SignalRows.new.Given as goal

abbrev pub invariant-types : goal.invariant-types
invariant-types l = record {
  count : length l.rows.items ≡ l.t;
  each : (t : ℕ) → t < length (map (λ row. row.items) l.rows.items)
      → ArePlaces l.signals.signals (read [] (map (λ row. row.items) l.rows.items) t) (declared_of l.tree l.signals.signals t);
  few : AreFew (map (λ row. row.items) l.rows.items);
}
