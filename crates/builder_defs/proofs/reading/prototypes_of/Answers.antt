use Rattle.std.proofs.Common.{◌≡◌, None, Ok, codes, subst}
use Rattle.std.proofs.lemmas.Result.{err_from_is_err_and}
use Rattle.json_trees.specs.View.{view, items_view}
use Rattle.ui_machine.specs.Seq.{read}
use Rattle.param_specs.specs.Table.{own_of}
use Rattle.definition_format.specs.Document.{entries_at}
use Rattle.definition_format.specs.Denoted.Properties.{specs_by}
use Rattle.definition_format.specs.Denoted.Shapes.{is_shaped_by}
use Rattle.builder_defs.proofs.PlaceLists.{prototypes_fail}
use Rattle.builder_defs.proofs.reading.prototypes_of.Goals as goal

pub returns-in_err-prototypes-clause-prototypes : goal.returns-in_err-prototypes-clause-prototypes
returns-in_err-prototypes-clause-prototypes c =
    let known = c.args.classes in
    let p = err_from_is_err_and c.from_residual-in_err-prototypes.result c.from_residual-in_err-prototypes.ensures.1 in
    rw (p.1, p.2) (prototypes_fail known.types.now (specs_by known.types.now (own_of known.specs.now)) (is_shaped_by known.types.now (read None known.shaped.now)) (view c.args.part.value.now) (items_view c.in_ok-items.items.now)
    (subst (λ path. entries_at path (view c.args.part.value.now) (codes "prototypes") ≡ Ok (items_view c.in_ok-items.items.now)) c.requires.root c.in_ok-items.ensures)
    c.in_err-prototypes.field-0.0 c.in_err-prototypes.ensures.prototypes)
