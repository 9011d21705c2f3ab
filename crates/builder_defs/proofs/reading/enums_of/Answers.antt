use Rattle.std.proofs.Common.{◌≡◌, Ok, codes, length, subst}
use Rattle.std.proofs.lemmas.Result.{err_from_is_err_and}
use Rattle.json_trees.specs.View.{view, items_view}
use Rattle.definition_format.specs.Refusals.{Fails}
use Rattle.definition_format.specs.Document.{entries_at, each, at_entry}
use Rattle.definition_format.specs.Denoted.Enums.{enum_at}
use Rattle.read_parts.proofs.Sections.{enums_fail}
use Rattle.builder_defs.proofs.reading.enums_of.Goals as goal

pub returns-in_err-read_enums : goal.returns-in_err-read_enums
returns-in_err-read_enums c =
    let p = err_from_is_err_and c.from_residual-in_err-read_enums.result c.from_residual-in_err-read_enums.ensures.1 in
    rw (p.1, p.2) (enums_fail (view c.args.part.value.now) (items_view c.in_ok-items.items.now) c.in_err-read_enums.field-0.0
    (subst (λ path. entries_at path (view c.args.part.value.now) (codes "enums") ≡ Ok (items_view c.in_ok-items.items.now)) c.requires.root c.in_ok-items.ensures)
    (subst (λ types. Fails c.in_err-read_enums.field-0.0 (each (at_entry (λ path. enum_at path (length types)) (codes "/enums")) 0 types (items_view c.in_ok-items.items.now))) c.requires.first c.in_err-read_enums.ensures))
