use Rattle.std.proofs.Common.{None, Ok, map, refl}
use Rattle.std.proofs.lemmas.Result.{err_from_is_err_and}
use Rattle.json_trees.specs.View.{view, members_view}
use Rattle.param_specs.specs.Table.{own_of}
use Rattle.ui_machine.specs.Seq.{read}
use Rattle.definition_format.specs.Meaning.{parts, plain_prototype, plain_program, plain_shape}
use Rattle.definition_format.specs.Denoted.Objects.{built_view}
use Rattle.definition_format.specs.Denoted.Properties.{specs_by}
use Rattle.definition_format.specs.Denoted.Shapes.{is_shaped_by}
use Rattle.definition_format.specs.Denoted.Drafts.{class_draft_of}
use Rattle.definition_format.proofs.Soundness.{sound, plain_read, few_prototypes}
use Rattle.builder_defs.proofs.PlaceLists.{objects_fail_same, objects_same, prototypes_fail_same, prototypes_same}
use Rattle.builder_defs.proofs.Whole.{definition_done, definition_fails, objects_fail, prototypes_fail}
use Rattle.builder_defs.proofs.reading.parts_in.Goals as goal

pub prototypes_of-requires : goal.prototypes_of-requires
prototypes_of-requires c = record { root = refl; plain = plain_read c.in_ok-draft.draft.types c.in_ok-draft.draft.specs c.in_ok-draft.draft.signals c.in_ok-draft.draft.constructed.items (map plain_shape c.in_ok-draft.draft.shapes.entries) c.in_ok-draft.draft.shaped.items (view c.args.value.now) c.in_ok-draft.ensures }

pub objects_of-requires : goal.objects_of-requires
objects_of-requires c = record {
  root = refl;
  plain = plain_read c.in_ok-draft.draft.types c.in_ok-draft.draft.specs c.in_ok-draft.draft.signals c.in_ok-draft.draft.constructed.items (map plain_shape c.in_ok-draft.draft.shapes.entries) c.in_ok-draft.draft.shaped.items (view c.args.value.now) c.in_ok-draft.ensures;
  named = c.in_ok-programs.ensures.named;
  few = c.in_ok-programs.ensures.few;
  few_prototypes = few_prototypes c.in_ok-draft.draft.types (specs_by c.in_ok-draft.draft.types (own_of c.in_ok-draft.draft.specs)) (is_shaped_by c.in_ok-draft.draft.types (read None c.deref.result.now)) (view c.args.value.now) c.in_ok-prototypes.prototypes.prototypes.entries c.in_ok-prototypes.ensures.prototypes;
  peers = c.in_ok-prototypes.ensures.named;
}

pub returns-clause-sound : goal.returns-clause-sound
returns-clause-sound c =
    let prototypes = prototypes_same c.in_ok-draft.draft.types (specs_by c.in_ok-draft.draft.types (own_of c.in_ok-draft.draft.specs)) (view c.args.value.now) c.deref.result.now c.in_ok-draft.draft.shaped.items (Ok (map plain_prototype c.in_ok-prototypes.prototypes.prototypes.entries)) c.deref.ensures.value c.in_ok-prototypes.ensures.prototypes in
    let built = objects_same c.in_ok-draft.draft.types (specs_by c.in_ok-draft.draft.types (own_of c.in_ok-draft.draft.specs)) (map plain_program c.in_ok-programs.programs.entries) (map plain_prototype c.in_ok-prototypes.prototypes.prototypes.entries) c.in_ok-limits.limits.objects (view c.args.value.now) c.deref.result.now c.in_ok-draft.draft.shaped.items (Ok (built_view c.in_ok-built.built.objects.entries c.in_ok-built.built.bindings.items)) c.deref.ensures.value c.in_ok-built.ensures in
    sound (parts c.in_ok-draft.draft.types c.in_ok-draft.draft.specs c.in_ok-draft.draft.signals c.in_ok-draft.draft.constructed.items c.in_ok-draft.draft.shapes.entries c.in_ok-draft.draft.shaped.items c.in_ok-programs.programs.entries c.in_ok-prototypes.prototypes.prototypes.entries c.in_ok-built.built.objects.entries c.in_ok-built.built.bindings.items c.in_ok-limits.limits) (view c.args.value.now)
    c.in_ok-draft.ensures c.in_ok-limits.ensures.checked prototypes built
    c.in_ok-programs.ensures.named c.in_ok-programs.ensures.sound c.in_ok-programs.ensures.few

pub returns-in_err-prototypes-clause-read : goal.returns-in_err-prototypes-clause-read
returns-in_err-prototypes-clause-read c =
    let p = err_from_is_err_and c.from_residual-in_err-prototypes.result c.from_residual-in_err-prototypes.ensures.1 in
    let failed = prototypes_fail_same c.in_ok-draft.draft.types (specs_by c.in_ok-draft.draft.types (own_of c.in_ok-draft.draft.specs)) (view c.args.value.now) c.deref.result.now c.in_ok-draft.draft.shaped.items c.in_err-prototypes.field-0.0 c.deref.ensures.value c.in_err-prototypes.ensures.prototypes in
    rw (p.1, p.2) (prototypes_fail (view c.args.value.now) (members_view c.in_ok-members.members.now) c.format_in.result c.in_ok-format.format c.in_ok-limits.limits
    (class_draft_of c.in_ok-draft.draft.types c.in_ok-draft.draft.specs c.in_ok-draft.draft.signals c.in_ok-draft.draft.constructed.items (map plain_shape c.in_ok-draft.draft.shapes.entries) c.in_ok-draft.draft.shaped.items) (map plain_program c.in_ok-programs.programs.entries)
    c.in_ok-members.ensures c.format_in.ensures c.in_ok-format.ensures c.in_ok-limits.ensures.limits c.in_ok-draft.ensures c.in_ok-programs.ensures.read
    c.in_err-prototypes.field-0.0 failed)

pub returns-in_err-built-clause-read : goal.returns-in_err-built-clause-read
returns-in_err-built-clause-read c =
    let prototypes = prototypes_same c.in_ok-draft.draft.types (specs_by c.in_ok-draft.draft.types (own_of c.in_ok-draft.draft.specs)) (view c.args.value.now) c.deref.result.now c.in_ok-draft.draft.shaped.items (Ok (map plain_prototype c.in_ok-prototypes.prototypes.prototypes.entries)) c.deref.ensures.value c.in_ok-prototypes.ensures.prototypes in
    let failed = objects_fail_same c.in_ok-draft.draft.types (specs_by c.in_ok-draft.draft.types (own_of c.in_ok-draft.draft.specs)) (map plain_program c.in_ok-programs.programs.entries) (map plain_prototype c.in_ok-prototypes.prototypes.prototypes.entries) c.in_ok-limits.limits.objects (view c.args.value.now) c.deref.result.now c.in_ok-draft.draft.shaped.items c.in_err-built.field-0.0 c.deref.ensures.value c.in_err-built.ensures in
    let p = err_from_is_err_and c.from_residual-in_err-built.result c.from_residual-in_err-built.ensures.1 in
    rw (p.1, p.2) (objects_fail (view c.args.value.now) (members_view c.in_ok-members.members.now) c.format_in.result c.in_ok-format.format c.in_ok-limits.limits
    (class_draft_of c.in_ok-draft.draft.types c.in_ok-draft.draft.specs c.in_ok-draft.draft.signals c.in_ok-draft.draft.constructed.items (map plain_shape c.in_ok-draft.draft.shapes.entries) c.in_ok-draft.draft.shaped.items) (map plain_program c.in_ok-programs.programs.entries)
    (map plain_prototype c.in_ok-prototypes.prototypes.prototypes.entries)
    c.in_ok-members.ensures c.format_in.ensures c.in_ok-format.ensures c.in_ok-limits.ensures.limits c.in_ok-draft.ensures c.in_ok-programs.ensures.read prototypes
    c.in_err-built.field-0.0 failed)

pub returns-in_err-check_only-clause-read : goal.returns-in_err-check_only-clause-read
returns-in_err-check_only-clause-read c =
    let prototypes = prototypes_same c.in_ok-draft.draft.types (specs_by c.in_ok-draft.draft.types (own_of c.in_ok-draft.draft.specs)) (view c.args.value.now) c.deref.result.now c.in_ok-draft.draft.shaped.items (Ok (map plain_prototype c.in_ok-prototypes.prototypes.prototypes.entries)) c.deref.ensures.value c.in_ok-prototypes.ensures.prototypes in
    let built = objects_same c.in_ok-draft.draft.types (specs_by c.in_ok-draft.draft.types (own_of c.in_ok-draft.draft.specs)) (map plain_program c.in_ok-programs.programs.entries) (map plain_prototype c.in_ok-prototypes.prototypes.prototypes.entries) c.in_ok-limits.limits.objects (view c.args.value.now) c.deref.result.now c.in_ok-draft.draft.shaped.items (Ok (built_view c.in_ok-built.built.objects.entries c.in_ok-built.built.bindings.items)) c.deref.ensures.value c.in_ok-built.ensures in
    let p = err_from_is_err_and c.from_residual-in_err-check_only.result c.from_residual-in_err-check_only.ensures.1 in
    rw (p.1, p.2) (definition_fails (view c.args.value.now) (members_view c.in_ok-members.members.now) c.format_in.result c.in_ok-format.format c.in_ok-limits.limits
    (class_draft_of c.in_ok-draft.draft.types c.in_ok-draft.draft.specs c.in_ok-draft.draft.signals c.in_ok-draft.draft.constructed.items (map plain_shape c.in_ok-draft.draft.shapes.entries) c.in_ok-draft.draft.shaped.items) (map plain_program c.in_ok-programs.programs.entries)
    (map plain_prototype c.in_ok-prototypes.prototypes.prototypes.entries) (built_view c.in_ok-built.built.objects.entries c.in_ok-built.built.bindings.items)
    c.in_ok-members.ensures c.format_in.ensures c.in_ok-format.ensures c.in_ok-limits.ensures.limits c.in_ok-draft.ensures c.in_ok-programs.ensures.read prototypes built
    c.in_err-check_only.field-0.0 c.in_err-check_only.ensures)

pub returns-clause-read : goal.returns-clause-read
returns-clause-read c =
    let prototypes = prototypes_same c.in_ok-draft.draft.types (specs_by c.in_ok-draft.draft.types (own_of c.in_ok-draft.draft.specs)) (view c.args.value.now) c.deref.result.now c.in_ok-draft.draft.shaped.items (Ok (map plain_prototype c.in_ok-prototypes.prototypes.prototypes.entries)) c.deref.ensures.value c.in_ok-prototypes.ensures.prototypes in
    let built = objects_same c.in_ok-draft.draft.types (specs_by c.in_ok-draft.draft.types (own_of c.in_ok-draft.draft.specs)) (map plain_program c.in_ok-programs.programs.entries) (map plain_prototype c.in_ok-prototypes.prototypes.prototypes.entries) c.in_ok-limits.limits.objects (view c.args.value.now) c.deref.result.now c.in_ok-draft.draft.shaped.items (Ok (built_view c.in_ok-built.built.objects.entries c.in_ok-built.built.bindings.items)) c.deref.ensures.value c.in_ok-built.ensures in
    definition_done (view c.args.value.now) (members_view c.in_ok-members.members.now) c.format_in.result c.in_ok-format.format
    (parts c.in_ok-draft.draft.types c.in_ok-draft.draft.specs c.in_ok-draft.draft.signals c.in_ok-draft.draft.constructed.items c.in_ok-draft.draft.shapes.entries c.in_ok-draft.draft.shaped.items c.in_ok-programs.programs.entries c.in_ok-prototypes.prototypes.prototypes.entries c.in_ok-built.built.objects.entries c.in_ok-built.built.bindings.items c.in_ok-limits.limits)
    c.in_ok-members.ensures c.format_in.ensures c.in_ok-format.ensures c.in_ok-limits.ensures.limits c.in_ok-draft.ensures c.in_ok-programs.ensures.read prototypes built c.in_ok-check_only.ensures
