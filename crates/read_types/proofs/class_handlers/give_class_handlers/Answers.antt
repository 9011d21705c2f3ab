use Rattle.std.proofs.Common.{ℕ, List, subst, ◌∙◌}
use Rattle.std.proofs.lemmas.Result.{err_from_is_err_and}
use Rattle.json_trees.specs.View.{view, items_view}
use Rattle.signal_core.specs.Table.{named_of}
use Rattle.definition_format.specs.Refusals.{Fails}
use Rattle.definition_format.specs.Document.{path_of, each, at_entry}
use Rattle.definition_format.specs.Denoted.ClassHandlers.{class_handler_at}
use Rattle.read_parts.proofs.Sections.{class_handlers_read_fail}
use Rattle.read_types.proofs.class_handlers.give_class_handlers.Goals as goal

pub returns-in_err-read_class_handlers-clause-handlers : goal.returns-in_err-read_class_handlers-clause-handlers
returns-in_err-read_class_handlers-clause-handlers c =
    let a = c.args in
    let list = items_view c.in_ok-items.items.now in
    let e = c.in_err-read_class_handlers.field-0.0 in
    let p = err_from_is_err_and c.from_residual-in_err-read_class_handlers.result c.from_residual-in_err-read_class_handlers.ensures.1 in
    rw (p.1, p.2) (class_handlers_read_fail (path_of a.part.path) a.programs.now a.t (named_of a.signals.now.handlers) (view a.part.value.now) list e
    c.in_ok-items.ensures
    (subst (λ (base : List ℕ). Fails e (each (at_entry (λ entry. class_handler_at entry a.programs.now a.t) base) 0 (named_of a.signals.now.handlers) list))
    (c.as_str.ensures.value ∙ c.in_ok-path.ensures) c.in_err-read_class_handlers.ensures.handlers))
