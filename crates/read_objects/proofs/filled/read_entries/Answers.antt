use Rattle.std.proofs.lemmas.Result.{err_from_is_err_and}
use Rattle.json_trees.specs.View.{items_view}
use Rattle.definition_format.specs.Document.{each, at_entry}
use Rattle.definition_format.specs.Denoted.Filled.{filled_at}
use Rattle.read_parts.proofs.Each.{goes_on, ends, is_done}
use Rattle.read_objects.specs.BindView.{filled_view, target_of}
use Rattle.read_objects.proofs.filled.read_entries.Goals as goal

pub returns-in_err-read_entry : goal.returns-in_err-read_entry
returns-in_err-read_entry c =
    let p = err_from_is_err_and c.from_residual.result c.from_residual.ensures.1 in
    rw (p.1, p.2) (ends (at_entry (λ entry. filled_at entry (target_of c.args.target.now)) c.args.list.path.now) c.args.list.items.now c.items.index (filled_view c.items.filled c.items.bindings)
    (each (at_entry (λ entry. filled_at entry (target_of c.args.target.now)) c.args.list.path.now) 0 (filled_view c.args.filled.now c.args.bindings.now) (items_view c.args.list.items.now))
    c.in_err-read_entry.field-0.0 c.value-item.result c.items-test.true c.value-item.is c.in_err-read_entry.ensures c.items.invariant)

pub items-preserved : goal.items-preserved
items-preserved c =
    goes_on (at_entry (λ entry. filled_at entry (target_of c.args.target.now)) c.args.list.path.now) c.args.list.items.now c.items.index (filled_view c.items.filled c.items.bindings)
    (each (at_entry (λ entry. filled_at entry (target_of c.args.target.now)) c.args.list.path.now) 0 (filled_view c.args.filled.now c.args.bindings.now) (items_view c.args.list.items.now))
    c.value-item.result (filled_view c.read_entry.new.filled c.read_entry.new.bindings) c.items-test.true c.value-item.is c.in_ok-read_entry.ensures c.items.invariant

pub returns : goal.returns
returns c =
    is_done (at_entry (λ entry. filled_at entry (target_of c.args.target.now)) c.args.list.path.now) c.args.list.items.now c.items.index (filled_view c.items.filled c.items.bindings)
    (each (at_entry (λ entry. filled_at entry (target_of c.args.target.now)) c.args.list.path.now) 0 (filled_view c.args.filled.now c.args.bindings.now) (items_view c.args.list.items.now))
    c.items-test.false c.items.invariant
