use Rattle.std.proofs.Common.{◌≡◌, ◌∙◌, codes}
use Rattle.std.proofs.lemmas.Result.{err_from_is_err_and}
use Rattle.json_trees.specs.View.{view, items_view}
use Rattle.definition_format.specs.Document.{path_of, under}
use Rattle.read_parts.proofs.Chains.{fails_as}
use Rattle.read_types.proofs.NamesAhead.{names_ahead_are}
use Rattle.read_types.proofs.own_signals.read_own_signals.Goals as goal

pub returns-in_err-own : goal.returns-in_err-own
returns-in_err-own c =
    let at_base : c.as_str.result.now ≡ under (path_of c.args.part.path) (codes "signals") = c.as_str.ensures.value ∙ c.in_ok-path.ensures in
    let p = err_from_is_err_and c.from_residual-in_err-own.result c.from_residual-in_err-own.ensures.1 in
    rw (p.1, p.2) (fails_as c.in_err-own.field-0.0 _ _
    (names_ahead_are (path_of c.args.part.path) (view c.args.part.value.now) c.as_str.result.now (items_view c.listed_ahead.result.now) at_base c.listed_ahead.ensures)
    c.in_err-own.ensures)

pub returns : goal.returns
returns c =
    let at_base : c.as_str.result.now ≡ under (path_of c.args.part.path) (codes "signals") = c.as_str.ensures.value ∙ c.in_ok-path.ensures in
    names_ahead_are (path_of c.args.part.path) (view c.args.part.value.now) c.as_str.result.now (items_view c.listed_ahead.result.now) at_base c.listed_ahead.ensures
    ∙ c.in_ok-own.ensures
