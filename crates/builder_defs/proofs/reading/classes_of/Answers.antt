use Rattle.std.proofs.Common.{◌≡◌, Ok, codes, map, subst}
use Rattle.std.proofs.lemmas.Result.{err_from_is_err_and}
use Rattle.json_trees.specs.View.{view, items_view}
use Rattle.definition_format.specs.Document.{entries_at}
use Rattle.definition_format.specs.Meaning.{plain_shape}
use Rattle.definition_format.specs.Denoted.Drafts.{class_draft_of}
use Rattle.read_parts.proofs.Sections.{classes_fail}
use Rattle.builder_defs.proofs.reading.classes_of.Goals as goal

pub returns-in_err-read_classes : goal.returns-in_err-read_classes
returns-in_err-read_classes c =
    let p = err_from_is_err_and c.from_residual-in_err-read_classes.result c.from_residual-in_err-read_classes.ensures.1 in
    rw (p.1, p.2) (classes_fail c.args.names.now c.args.programs.now (class_draft_of c.args.draft.now.types c.args.draft.now.specs c.args.draft.now.signals c.args.draft.now.constructed.items (map plain_shape c.args.draft.now.shapes.entries) c.args.draft.now.shaped.items) (view c.args.part.value.now) (items_view c.in_ok-items.items.now) c.in_err-read_classes.field-0.0
    (subst (λ path. entries_at path (view c.args.part.value.now) (codes "classes") ≡ Ok (items_view c.in_ok-items.items.now)) c.requires c.in_ok-items.ensures)
    c.in_err-read_classes.ensures)
