use Rattle.std.proofs.Common.{◌≡◌, ℕ, ◌+◌, ◌≤◌, drop, map}
use Rattle.ui_machine.specs.Seq.{total}
use Rattle.ui_machine.specs.State.References.{in_value}
use Rattle.g_values.specs.View.{value_view}
use Rattle.instance_tables.specs.Store.{count_of}
use Rattle.engine_world.specs.Counting.{OnlyCounts}
use Rattle.engine_world.proofs.references.hold_values.Given as goal

abbrev pub invariant-loop-value : goal.invariant-loop-value
invariant-loop-value l = record {
  only : OnlyCounts l.fn.table l.table;
  counts : (o : ℕ) → count_of l.table.counts o + total (in_value o) (map value_view (drop l.value-index l.values))
      ≡ count_of l.fn.table.counts o + total (in_value o) (map value_view l.values);
  less : (o : ℕ) → total (in_value o) (map value_view (drop l.value-index l.values)) ≤ total (in_value o) (map value_view l.values);
}
