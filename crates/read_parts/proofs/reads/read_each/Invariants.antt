use Rattle.std.proofs.Common.{◌≡◌, drop}
use Rattle.json_trees.specs.View.{items_view}
use Rattle.definition_format.specs.Document.{each, at_entry}
use Rattle.read_parts.proofs.reads.read_each.Given as goal

abbrev pub invariant-items : goal.invariant-items
invariant-items g l = record {
  read : each (at_entry (g.R.Reads.step l.reader) l.fn.list.path.now) l.index (g.R.Reads.seen l.state) (items_view (drop l.index l.fn.list.items.now))
      ≡ each (at_entry (g.R.Reads.step l.reader) l.fn.list.path.now) 0 (g.R.Reads.seen l.fn.state) (items_view l.fn.list.items.now);
  same : g.R.Reads.kept l.state ≡ g.R.Reads.kept l.fn.state;
}
