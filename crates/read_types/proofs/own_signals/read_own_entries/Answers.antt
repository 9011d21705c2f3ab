use Rattle.std.proofs.Common.{◌∙◌, sym}
use Rattle.std.specs.BTreeSet.{contains_text}
use Rattle.std.proofs.lemmas.Result.{err_from_is_err_and}
use Rattle.json_trees.specs.View.{items_view}
use Rattle.read_parts.proofs.Chains.{fails_as}
use Rattle.read_types.proofs.NamesAhead.{names_are, no_names}
use Rattle.read_types.proofs.own_signals.read_own_entries.Goals as goal

pub returns-in_err-read_each : goal.returns-in_err-read_each
returns-in_err-read_each c =
    let own = c.new-own.result in
    let p = err_from_is_err_and c.from_residual.result c.from_residual.ensures.1 in
    rw (p.1, p.2) (fails_as c.in_err-read_each.field-0.0 _ _
    (sym (names_are c.args.list.path.now (λ q. contains_text own q) (items_view c.args.list.items.now) (no_names own c.new-own.ensures.empty))) c.in_err-read_each.ensures.read)

pub returns : goal.returns
returns c =
    let own = c.new-own.result in
    sym (names_are c.args.list.path.now (λ q. contains_text own q) (items_view c.args.list.items.now) (no_names own c.new-own.ensures.empty)) ∙ c.in_ok-read_each.ensures.read
