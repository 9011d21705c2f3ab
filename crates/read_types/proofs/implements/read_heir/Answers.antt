use Rattle.std.proofs.Common.{◌∙◌, [], sym, refl}
use Rattle.std.proofs.lemmas.Result.{err_from_is_err_and}
use Rattle.json_trees.specs.View.{items_view}
use Rattle.definition_format.specs.Document.{each, at_entry}
use Rattle.definition_format.specs.Denoted.Signals.{signals_by}
use Rattle.definition_format.specs.Denoted.Implements.{implemented_at}
use Rattle.read_parts.proofs.Chains.{fails_as}
use Rattle.read_types.specs.ImplementDrafts.{ImplementParts, parts_of, parts_seen}
use Rattle.read_types.specs.OverrideView.{heir_of}
use Rattle.read_types.proofs.Drafting.{read_from, fails_from}
use Rattle.read_types.proofs.ImplementParts.{reads_from}
use Rattle.read_types.proofs.implements.read_heir.Goals as goal

pub returns-in_err-read_each : goal.returns-in_err-read_each
returns-in_err-read_each c =
    let heir = heir_of c.args.heir.now in
    let base = c.args.list.path.now in
    let items = items_view c.args.list.items.now in
    let e = c.in_err-read_each.field-0.0 in
    let p = err_from_is_err_and c.from_residual-in_err-read_each.result c.from_residual-in_err-read_each.ensures.1 in
    rw (p.1, p.2) (fails_from (parts_of (signals_by heir.types heir.signals) heir.parent) e (each (at_entry (λ path. implemented_at path heir) base) 0 [] items)
    (fails_as e _ _ (sym (reads_from c.args.heir.now base (parts_seen c.in_ok-implemented.implemented) items c.in_ok-implemented.ensures)) c.in_err-read_each.ensures.read))

pub returns : goal.returns
returns c =
    let heir = heir_of c.args.heir.now in
    let base = c.args.list.path.now in
    let items = items_view c.args.list.items.now in
    read_from (parts_of (signals_by heir.types heir.signals) heir.parent) (λ (p : ImplementParts). p.types) (λ ts. refl) (each (at_entry (λ path. implemented_at path heir) base) 0 [] items) _
    (sym (reads_from c.args.heir.now base (parts_seen c.in_ok-implemented.implemented) items c.in_ok-implemented.ensures) ∙ c.in_ok-read_each.ensures.read)
