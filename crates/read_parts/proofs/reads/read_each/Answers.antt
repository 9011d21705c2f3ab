use Rattle.std.proofs.Common.{◌∙◌}
use Rattle.std.proofs.lemmas.Result.{err_from_is_err_and}
use Rattle.json_trees.specs.View.{items_view}
use Rattle.definition_format.specs.Document.{each, at_entry}
use Rattle.read_parts.proofs.Each.{goes_on, ends, is_done}
use Rattle.read_parts.proofs.reads.read_each.Goals as goal

pub returns-in_err-read-clause-read : goal.returns-in_err-read-clause-read
returns-in_err-read-clause-read g c =
    let p = err_from_is_err_and c.from_residual.result c.from_residual.ensures.1 in
    rw (p.1, p.2) (ends (at_entry (g.R.Reads.step c.args.reader.now) c.args.list.path.now) c.args.list.items.now c.items.index (g.R.Reads.seen c.items.state)
    (each (at_entry (g.R.Reads.step c.args.reader.now) c.args.list.path.now) 0 (g.R.Reads.seen c.args.state.now) (items_view c.args.list.items.now))
    c.in_err-read.field-0.0 c.value-item.result c.items-test.true c.value-item.is c.in_err-read.ensures.read c.items.invariant.read)

pub items-preserved : goal.items-preserved
items-preserved g c = record {
  read = goes_on (at_entry (g.R.Reads.step c.args.reader.now) c.args.list.path.now) c.args.list.items.now c.items.index (g.R.Reads.seen c.items.state)
      (each (at_entry (g.R.Reads.step c.args.reader.now) c.args.list.path.now) 0 (g.R.Reads.seen c.args.state.now) (items_view c.args.list.items.now))
      c.value-item.result (g.R.Reads.seen c.read.new.state) c.items-test.true c.value-item.is c.in_ok-read.ensures.read c.items.invariant.read;
  same = c.in_ok-read.ensures.same ∙ c.items.invariant.same;
}

pub returns-clause-read : goal.returns-clause-read
returns-clause-read g c =
    is_done (at_entry (g.R.Reads.step c.args.reader.now) c.args.list.path.now) c.args.list.items.now c.items.index (g.R.Reads.seen c.items.state)
    (each (at_entry (g.R.Reads.step c.args.reader.now) c.args.list.path.now) 0 (g.R.Reads.seen c.args.state.now) (items_view c.args.list.items.now))
    c.items-test.false c.items.invariant.read
