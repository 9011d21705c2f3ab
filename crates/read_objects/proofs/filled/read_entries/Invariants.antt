use Rattle.std.proofs.Common.{◌≡◌, drop}
use Rattle.json_trees.specs.View.{items_view}
use Rattle.definition_format.specs.Document.{each, at_entry}
use Rattle.definition_format.specs.Denoted.Filled.{filled_at}
use Rattle.read_objects.specs.BindView.{filled_view, target_of}
use Rattle.read_objects.proofs.filled.read_entries.Given as goal

abbrev pub invariant-items : goal.invariant-items
invariant-items l =
    each (at_entry (λ entry. filled_at entry (target_of l.fn.target)) l.fn.list.path.now) l.index (filled_view l.filled l.bindings) (items_view (drop l.index l.fn.list.items.now))
    ≡ each (at_entry (λ entry. filled_at entry (target_of l.fn.target)) l.fn.list.path.now) 0 (filled_view l.fn.filled l.fn.bindings) (items_view l.fn.list.items.now)
