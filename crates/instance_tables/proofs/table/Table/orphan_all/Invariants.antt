use Rattle.std.proofs.Common.{◌≡◌, ℕ, ◌-◌, length, take}
use Rattle.ui_machine.specs.Seq.{total}
use Rattle.ui_machine.specs.State.References.{same}
use Rattle.ui_machine.specs.Rules.Disposal.{orphans}
use Rattle.instance_tables.specs.Store.{count_of, ids_of}
use Rattle.instance_tables.proofs.table.Table.orphan_all.Given as goal

abbrev pub invariant-loop-child : goal.invariant-loop-child
invariant-loop-child l = record {
  objects : l.self.objects ≡ orphans (ids_of (take l.child-index l.children)) l.fn.self.objects;
  long : length l.self.objects ≡ length l.fn.self.objects;
  counts : (i : ℕ) → count_of l.self.counts i ≡ count_of l.fn.self.counts i - total (same i) (ids_of (take l.child-index l.children));
  beside : l.self ≡ record l.fn.self { objects = l.self.objects; counts = l.self.counts };
}
