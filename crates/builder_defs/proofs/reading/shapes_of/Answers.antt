use Rattle.std.proofs.Common.{◌≡◌, Ok, codes, subst}
use Rattle.definition_format.specs.Document.{entries_at}
use Rattle.std.proofs.lemmas.Result.{err_from_is_err_and}
use Rattle.json_trees.specs.View.{view, items_view}
use Rattle.read_parts.proofs.Sections.{shapes_read_fail}
use Rattle.builder_defs.proofs.reading.shapes_of.Goals as goal

pub returns-in_err-shapes : goal.returns-in_err-shapes
returns-in_err-shapes c =
    let p = err_from_is_err_and c.from_residual-in_err-shapes.result c.from_residual-in_err-shapes.ensures.1 in
    rw (p.1, p.2) (shapes_read_fail (view c.args.part.value.now) (items_view c.in_ok-items.items.now) c.in_err-shapes.field-0.0 (subst (λ path. entries_at path (view c.args.part.value.now) (codes "shapes") ≡ Ok (items_view c.in_ok-items.items.now)) c.requires c.in_ok-items.ensures) c.in_err-shapes.ensures)
