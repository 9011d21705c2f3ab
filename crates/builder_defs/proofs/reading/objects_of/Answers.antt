use Rattle.std.proofs.Common.{◌≡◌, None, Ok, codes, map, subst}
use Rattle.std.proofs.lemmas.Result.{err_from_is_err_and}
use Rattle.json_trees.specs.View.{view, items_view}
use Rattle.ui_machine.specs.Seq.{read}
use Rattle.param_specs.specs.Table.{own_of}
use Rattle.definition_format.specs.Document.{entries_at}
use Rattle.definition_format.specs.Meaning.{plain_program, plain_prototype}
use Rattle.definition_format.specs.Denoted.Objects.{built_view}
use Rattle.definition_format.specs.Denoted.Properties.{specs_by}
use Rattle.definition_format.specs.Denoted.Shapes.{is_shaped_by}
use Rattle.builder_defs.proofs.PlaceLists.{objects_done, objects_fail}
use Rattle.builder_defs.proofs.reading.objects_of.Goals as goal

pub returns-in_err-objects : goal.returns-in_err-objects
returns-in_err-objects c =
    let known = c.args.classes in
    let p = err_from_is_err_and c.from_residual-in_err-objects.result c.from_residual-in_err-objects.ensures.1 in
    rw (p.1, p.2) (objects_fail known.types.now (specs_by known.types.now (own_of known.specs.now)) (is_shaped_by known.types.now (read None known.shaped.now)) (map plain_program c.args.programs.now.entries) (map plain_prototype c.args.prototypes.now.prototypes.entries) c.args.most (view c.args.part.value.now) (items_view c.in_ok-items.items.now)
    (subst (λ path. entries_at path (view c.args.part.value.now) (codes "objects") ≡ Ok (items_view c.in_ok-items.items.now)) c.requires.root c.in_ok-items.ensures)
    c.in_err-objects.field-0.0 c.in_err-objects.ensures)

pub returns : goal.returns
returns c =
    let known = c.args.classes in
    objects_done known.types.now (specs_by known.types.now (own_of known.specs.now)) (is_shaped_by known.types.now (read None known.shaped.now)) (map plain_program c.args.programs.now.entries) (map plain_prototype c.args.prototypes.now.prototypes.entries) c.args.most (view c.args.part.value.now) (items_view c.in_ok-items.items.now)
    (subst (λ path. entries_at path (view c.args.part.value.now) (codes "objects") ≡ Ok (items_view c.in_ok-items.items.now)) c.requires.root c.in_ok-items.ensures)
    (built_view c.in_ok-objects.objects.objects.entries c.in_ok-objects.objects.bindings.items) c.in_ok-objects.ensures
