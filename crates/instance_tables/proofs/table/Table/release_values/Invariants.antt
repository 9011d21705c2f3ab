use Rattle.std.proofs.Common.{◌≡◌, ℕ, ◌-◌, take}
use Rattle.ui_machine.specs.State.Objects.{living}
use Rattle.instance_tables.specs.Store.{count_of}
use Rattle.instance_tables.specs.Release.{in_strong, values_in}
use Rattle.instance_tables.proofs.table.Table.release_values.Given as goal

abbrev pub invariant-loop-slot : goal.invariant-loop-slot
invariant-loop-slot l = record {
  counts : (i : ℕ) → count_of l.self.counts i
      ≡ count_of l.fn.self.counts i - in_strong i (take l.slot l.slots) (values_in (living l.fn.self.objects l.id.0));
  beside : l.self ≡ record l.fn.self { counts = l.self.counts };
}
