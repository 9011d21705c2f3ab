use Rattle.std.proofs.Common.{◌≡◌, ◌≤◌, length, map}
use Rattle.param_specs.specs.SlotRows.{AreFew, HasRows}
use Rattle.param_specs.proofs.slots.SlotTable.new.Given as goal

abbrev pub invariant-types : goal.invariant-types
invariant-types l = record {
  count : length l.rows.items ≡ l.t;
  rows : HasRows l.tree l.specs (map (λ row. row.items) l.rows.items);
  few : AreFew (map (λ row. row.items) l.rows.items);
}
