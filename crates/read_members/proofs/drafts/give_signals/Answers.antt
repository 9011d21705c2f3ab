use Rattle.std.proofs.Common.{ℕ, List, subst, ◌∙◌}
use Rattle.std.proofs.lemmas.Result.{err_from_is_err_and}
use Rattle.json_trees.specs.View.{view, items_view}
use Rattle.signal_core.specs.Sources.{own_of}
use Rattle.definition_format.specs.Refusals.{Fails}
use Rattle.definition_format.specs.Document.{path_of, each, at_entry}
use Rattle.definition_format.specs.Denoted.Signals.{signal_at}
use Rattle.read_parts.proofs.Sections.{signals_read_fail}
use Rattle.read_members.proofs.drafts.give_signals.Goals as goal

pub returns-in_err-read_signals-clause-signals : goal.returns-in_err-read_signals-clause-signals
returns-in_err-read_signals-clause-signals c =
    let a = c.args in
    let list = items_view c.in_ok-items.items.now in
    let e = c.in_err-read_signals.field-0.0 in
    let p = err_from_is_err_and c.from_residual-in_err-read_signals.result c.from_residual-in_err-read_signals.ensures.1 in
    rw (p.1, p.2) (signals_read_fail (path_of a.part.path) a.types.now a.names.now a.t (own_of a.signals.now.signals) (view a.part.value.now) list e
    c.in_ok-items.ensures
    (subst (λ (base : List ℕ). Fails e (each (at_entry (λ entry. signal_at entry a.types.now a.names.now a.t) base) 0 (own_of a.signals.now.signals) list))
    (c.as_str.ensures.value ∙ c.in_ok-path.ensures) c.in_err-read_signals.ensures.signals))
