use Rattle.std.proofs.Common.{◌≡◌, List, [], Ok, codes, length, subst}
use Rattle.std.proofs.lemmas.Result.{err_from_is_err_and}
use Rattle.serde_json.specs.Data.{Items}
use Rattle.json_trees.specs.View.{view, items_view}
use Rattle.ui_machine.specs.Definition.Properties.{Spec}
use Rattle.ui_machine.specs.Definition.Signals.{Signal}
use Rattle.definition_format.specs.Refusals.{Fails}
use Rattle.definition_format.specs.Document.{entries_at, listed_ahead, each, at_entry}
use Rattle.definition_format.specs.Denoted.Drafts.{draft_of}
use Rattle.definition_format.specs.Denoted.Interfaces.{interface_at}
use Rattle.read_parts.proofs.Sections.{interfaces_fail}
use Rattle.builder_defs.proofs.reading.interfaces_of.Goals as goal

pub returns-in_err-read_interfaces-clause-draft : goal.returns-in_err-read_interfaces-clause-draft
returns-in_err-read_interfaces-clause-draft c =
    let p = err_from_is_err_and c.from_residual-in_err-read_interfaces.result c.from_residual-in_err-read_interfaces.ensures.1 in
    rw (p.1, p.2) (interfaces_fail c.args.names.now c.args.draft.now.types (view c.args.part.value.now) (items_view c.in_ok-items.items.now) c.in_err-read_interfaces.field-0.0
    (subst (λ path. entries_at path (view c.args.part.value.now) (codes "interfaces") ≡ Ok (items_view c.in_ok-items.items.now)) c.requires.root c.in_ok-items.ensures)
    (subst (λ (signals : List (List Signal)). Fails c.in_err-read_interfaces.field-0.0 (each (at_entry (λ path. interface_at path (length c.args.draft.now.types) (items_view c.in_ok-items.items.now) (listed_ahead (codes "classes") (view c.args.part.value.now)) c.args.names.now) (codes "/interfaces")) 0 (draft_of c.args.draft.now.types [] signals) (items_view c.in_ok-items.items.now))) c.requires.undeclared
    (subst (λ (specs : List (List Spec)). Fails c.in_err-read_interfaces.field-0.0 (each (at_entry (λ path. interface_at path (length c.args.draft.now.types) (items_view c.in_ok-items.items.now) (listed_ahead (codes "classes") (view c.args.part.value.now)) c.args.names.now) (codes "/interfaces")) 0 (draft_of c.args.draft.now.types specs c.args.draft.now.signals.signals) (items_view c.in_ok-items.items.now))) c.requires.bare
    (subst (λ (classes : Items). Fails c.in_err-read_interfaces.field-0.0 (each (at_entry (λ path. interface_at path (length c.args.draft.now.types) (items_view c.in_ok-items.items.now) classes c.args.names.now) (codes "/interfaces")) 0 (draft_of c.args.draft.now.types c.args.draft.now.specs c.args.draft.now.signals.signals) (items_view c.in_ok-items.items.now))) c.listed_ahead.ensures c.in_err-read_interfaces.ensures.draft))))
