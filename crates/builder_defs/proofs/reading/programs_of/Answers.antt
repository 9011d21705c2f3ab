use Rattle.std.proofs.Common.{◌≡◌, Ok, codes, map, subst}
use Rattle.std.specs.BTreeMap.{get_by_text}
use Rattle.std.proofs.lemmas.Result.{err_from_is_err_and}
use Rattle.json_trees.specs.View.{view, items_view}
use Rattle.bytecode.specs.Reading.RegisterKinds.{number_of_place}
use Rattle.definition_format.specs.Meaning.{plain_program}
use Rattle.definition_format.specs.Document.{entries_at}
use Rattle.builder_defs.proofs.CodeNames.{programs_fail, programs_done}
use Rattle.builder_defs.proofs.reading.programs_of.Goals as goal

pub returns-in_err-programs-clause-read : goal.returns-in_err-programs-clause-read
returns-in_err-programs-clause-read c =
    let p = err_from_is_err_and c.from_residual-in_err-programs.result c.from_residual-in_err-programs.ensures.1 in
    rw (p.1, p.2) (programs_fail c.args.format c.args.types.now (view c.args.part.value.now) (items_view c.in_ok-items.items.now)
    (subst (λ path. entries_at path (view c.args.part.value.now) (codes "programs") ≡ Ok (items_view c.in_ok-items.items.now)) c.requires c.in_ok-items.ensures)
    (λ id. number_of_place (get_by_text c.in_ok-places.places id)) c.in_ok-places.ensures c.in_err-programs.field-0.0 c.in_err-programs.ensures.read)

pub returns-clause-read : goal.returns-clause-read
returns-clause-read c =
    programs_done c.args.format c.args.types.now (view c.args.part.value.now) (items_view c.in_ok-items.items.now)
    (subst (λ path. entries_at path (view c.args.part.value.now) (codes "programs") ≡ Ok (items_view c.in_ok-items.items.now)) c.requires c.in_ok-items.ensures)
    (λ id. number_of_place (get_by_text c.in_ok-places.places id)) c.in_ok-places.ensures (map plain_program c.in_ok-programs.programs.entries) c.in_ok-programs.ensures.read
