use Rattle.std.proofs.Common.{ℕ, List, [], subst, ◌∙◌}
use Rattle.std.proofs.lemmas.Result.{err_from_is_err_and}
use Rattle.json_trees.specs.View.{view, items_view}
use Rattle.definition_format.specs.Refusals.{Fails}
use Rattle.definition_format.specs.Document.{path_of, each, at_entry}
use Rattle.definition_format.specs.Denoted.Signals.{param_at}
use Rattle.read_parts.proofs.Sections.{params_read_fail}
use Rattle.read_members.proofs.signals.params_of.Goals as goal

pub returns-in_err-params : goal.returns-in_err-params
returns-in_err-params c =
    let a = c.args in
    let list = items_view c.in_ok-items.items.now in
    let e = c.in_err-params.field-0.0 in
    let p = err_from_is_err_and c.from_residual-in_err-params.result c.from_residual-in_err-params.ensures.1 in
    rw (p.1, p.2) (params_read_fail (path_of a.part.path) a.types.now a.names.now (view a.part.value.now) list e
    c.in_ok-items.ensures
    (subst (λ (base : List ℕ). Fails e (each (at_entry (λ entry. param_at entry a.types.now a.names.now) base) 0 [] list))
    (c.as_str.ensures.value ∙ c.in_ok-path.ensures) c.in_err-params.ensures))
