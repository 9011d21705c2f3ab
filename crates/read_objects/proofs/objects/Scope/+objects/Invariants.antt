use Rattle.std.proofs.Common.{◌≡◌, ◌*◌, ◌+◌, drop}
use Rattle.json_trees.specs.View.{items_view}
use Rattle.definition_format.specs.Document.{each, at_entry}
use Rattle.definition_format.specs.Meaning.{place_number}
use Rattle.read_objects.specs.ScopeView.{built_of, scope_of}
use Rattle.definition_format.specs.Denoted.Objects.{object_at}
use Rattle.read_objects.proofs.objects.Scope.+objects.Given as goal

abbrev pub decreases-read_entry : goal.decreases-read_entry
decreases-read_entry l = 2 * l.levels

abbrev pub decreases-read_list : goal.decreases-read_list
decreases-read_list l = 2 * l.levels + 1

abbrev pub invariant-read_list-items : goal.invariant-read_list-items
invariant-read_list-items l =
    each (at_entry (object_at l.fn.levels (scope_of l.fn.self) (place_number l.fn.parent)) l.fn.list.path.now) l.index (built_of l.built) (items_view (drop l.index l.fn.list.items.now))
    ≡ each (at_entry (object_at l.fn.levels (scope_of l.fn.self) (place_number l.fn.parent)) l.fn.list.path.now) 0 (built_of l.fn.built) (items_view l.fn.list.items.now)
