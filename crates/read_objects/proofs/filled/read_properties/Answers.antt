use Rattle.std.proofs.Common.{◌≡◌, ℕ, List, map, ap, ◌∙◌}
use Rattle.std.proofs.lemmas.Result.{err_from_is_err_and}
use Rattle.json_trees.specs.View.{view, items_view}
use Rattle.definition_format.specs.declared.objects.GivenValue.{GivenValue}
use Rattle.definition_format.specs.Meaning.{given_property}
use Rattle.definition_format.specs.Document.{path_of}
use Rattle.definition_format.specs.Denoted.Filled.{Filled, unfilled}
use Rattle.read_objects.specs.BindView.{target_of}
use Rattle.read_objects.proofs.Filling.{all_fail}
use Rattle.read_objects.proofs.filled.read_properties.Goals as goal

pub returns-in_err-read_entries : goal.returns-in_err-read_entries
returns-in_err-read_entries c =
    let p = err_from_is_err_and c.from_residual-in_err-read_entries.result c.from_residual-in_err-read_entries.ensures.1 in
    let before = c.args.bindings.now in
    let start : Filled = record { slots = c.new.result.items; given = map given_property c.new-2.result.items; bindings = before } in
    let first : start ≡ unfilled before =
    ap (λ (slots : List ℕ). record start { slots = slots }) c.new.ensures.items
    ∙ ap (λ (given : List GivenValue). record (unfilled before) { given = map given_property given }) c.new-2.ensures.items in
    rw (p.1, p.2) (all_fail (path_of c.args.part.path) c.as_str.result.now (target_of c.args.target.now) before (view c.args.part.value.now) (items_view c.in_ok-items.items.now) start
    c.in_ok-items.ensures (c.as_str.ensures.value ∙ c.in_ok-path.ensures) first c.in_err-read_entries.field-0.0 c.in_err-read_entries.ensures)
