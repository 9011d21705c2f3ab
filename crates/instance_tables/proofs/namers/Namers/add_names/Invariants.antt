use Rattle.std.proofs.Common.{◌≡◌, ℕ, ◌<◌, Some, slice_get}
use Rattle.instance_tables.specs.Names.{MayName, Stays}
use Rattle.instance_tables.specs.Release.{name_in}
use Rattle.instance_tables.proofs.namers.Namers.add_names.Given as goal

abbrev pub invariant-slots : goal.invariant-slots
invariant-slots l = record {
  added : (i t : ℕ) → i < l.slot → name_in (slice_get l.object.values i) ≡ Some t → MayName l.self t l.holder.0;
  stays : Stays l.fn.self l.self;
}
