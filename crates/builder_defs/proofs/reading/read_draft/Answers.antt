use Rattle.std.proofs.Common.{ap, map, ◌∙◌}
use Rattle.std.proofs.lemmas.Result.{err_from_is_err_and}
use Rattle.json_trees.specs.View.{view}
use Rattle.signal_core.specs.Table.{Declared}
use Rattle.definition_format.specs.Meaning.{plain_shape}
use Rattle.definition_format.specs.Denoted.Drafts.{class_draft_of}
use Rattle.builder_defs.proofs.Whole.{draft_fails, draft_with}
use Rattle.builder_defs.proofs.reading.read_draft.Goals as goal

pub returns-in_err-classes_of : goal.returns-in_err-classes_of
returns-in_err-classes_of c =
    let p = err_from_is_err_and c.from_residual-in_err-classes_of.result c.from_residual-in_err-classes_of.ensures.1 in
    rw (p.1, p.2) (draft_fails (view c.args.part.value.now) c.enums_of.new.types c.flags_of.new.types c.interfaces_of.new.draft.types c.interfaces_of.new.draft.specs c.interfaces_of.new.draft.signals c.new-4.result.items (map plain_shape c.in_ok-shapes.shapes.entries) c.new-5.result.items c.in_ok-names.names c.in_ok-programs.programs
    (c.in_ok-names.ensures c.flags_of.new.types c.len.ensures) c.in_ok-programs.ensures c.in_ok-enums_of.ensures c.in_ok-flags_of.ensures c.in_ok-interfaces_of.ensures.draft c.in_ok-shapes.ensures
    (c.in_ok-interfaces_of.ensures.handlers ∙ ap (λ (t : Declared). t.handlers) c.new-signals.ensures) c.new-4.ensures.items c.new-5.ensures.items
    c.in_err-classes_of.field-0.0 c.in_err-classes_of.ensures)

pub returns : goal.returns
returns c =
    draft_with (view c.args.part.value.now) c.enums_of.new.types c.flags_of.new.types c.interfaces_of.new.draft.types c.interfaces_of.new.draft.specs c.interfaces_of.new.draft.signals c.new-4.result.items (map plain_shape c.in_ok-shapes.shapes.entries) c.new-5.result.items c.in_ok-names.names c.in_ok-programs.programs
    (c.in_ok-names.ensures c.flags_of.new.types c.len.ensures) c.in_ok-programs.ensures c.in_ok-enums_of.ensures c.in_ok-flags_of.ensures c.in_ok-interfaces_of.ensures.draft c.in_ok-shapes.ensures
    (c.in_ok-interfaces_of.ensures.handlers ∙ ap (λ (t : Declared). t.handlers) c.new-signals.ensures) c.new-4.ensures.items c.new-5.ensures.items
    (class_draft_of c.classes_of.new.draft.types c.classes_of.new.draft.specs c.classes_of.new.draft.signals c.classes_of.new.draft.constructed.items (map plain_shape c.classes_of.new.draft.shapes.entries) c.classes_of.new.draft.shaped.items) c.in_ok-classes_of.ensures
