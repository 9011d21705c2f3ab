use Rattle.std.proofs.Common.{ℕ, List, subst, ◌∙◌}
use Rattle.std.proofs.lemmas.Result.{err_from_is_err_and}
use Rattle.json_trees.specs.View.{view, items_view}
use Rattle.param_specs.specs.Table.{own_of}
use Rattle.definition_format.specs.Refusals.{Fails}
use Rattle.definition_format.specs.Document.{path_of, each, at_entry}
use Rattle.definition_format.specs.Denoted.Properties.{property_at}
use Rattle.read_parts.proofs.Sections.{properties_read_fail}
use Rattle.read_members.proofs.drafts.give_properties.Goals as goal

pub returns-in_err-read_properties : goal.returns-in_err-read_properties
returns-in_err-read_properties c =
    let a = c.args in
    let list = items_view c.in_ok-items.items.now in
    let e = c.in_err-read_properties.field-0.0 in
    let p = err_from_is_err_and c.from_residual-in_err-read_properties.result c.from_residual-in_err-read_properties.ensures.1 in
    rw (p.1, p.2) (properties_read_fail (path_of a.part.path) a.types.now a.names.now a.t (own_of a.specs.now) (view a.part.value.now) list e
    c.in_ok-items.ensures
    (subst (λ (base : List ℕ). Fails e (each (at_entry (λ entry. property_at entry a.types.now a.names.now a.t) base) 0 (own_of a.specs.now) list))
    (c.as_str.ensures.value ∙ c.in_ok-path.ensures) c.in_err-read_properties.ensures))
