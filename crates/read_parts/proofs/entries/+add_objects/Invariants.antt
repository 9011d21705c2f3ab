use Rattle.std.proofs.Common.{◌≡◌, ◌++◌, ◌<◌, ◌-◌, drop}
use Rattle.json_trees.specs.View.{items_view}
use Rattle.read_parts.specs.EntryViews.{views}
use Rattle.definition_format.specs.Denoted.Entries.{with_all, in_order}
use Rattle.read_parts.proofs.InOrder.{below}
use Rattle.read_parts.proofs.entries.+add_objects.Given as goal

abbrev pub decreases-add_objects : goal.decreases-add_objects
decreases-add_objects l = l.levels

abbrev pub invariant-items : goal.invariant-items
invariant-items l = record {
  some : 0 < l.fn.levels;
  left : views l.objects.items ++ with_all (below (l.fn.levels - 1)) (items_view (drop l.value-index l.fn.items)) ≡ views l.fn.objects.items ++ in_order l.fn.levels (items_view l.fn.items);
}
