use Rattle.std.proofs.Common.{◌≡◌, ◌∙◌, ℕ, List, Bool, codes, map, ap}
use Rattle.std.proofs.lemmas.Result.{err_from_is_err_and}
use Rattle.json_trees.specs.View.{view, items_view}
use Rattle.param_specs.specs.Table.{own_of}
use Rattle.definition_format.specs.Document.{path_of, under}
use Rattle.read_types.specs.OverrideView.{own_view, names_of}
use Rattle.read_types.specs.OwnParts.{are_named}
use Rattle.definition_format.specs.Denoted.Brought.{own_signals_ahead}
use Rattle.definition_format.specs.Denoted.Drafts.{draft_of}
use Rattle.definition_format.specs.Denoted.Implements.{heir_with}
use Rattle.definition_format.specs.Denoted.Overrides.{own_named, own_ahead}
use Rattle.read_parts.proofs.Chains.{fails_as}
use Rattle.read_types.proofs.Drafting.{was_read, fails_from}
use Rattle.read_types.proofs.Implementing.{own_fails, signals_fail, listed_with, reads_same}
use Rattle.read_types.proofs.NamesAhead.{named_among}
use Rattle.read_types.proofs.implements.read_listed.Goals as goal

pub returns-in_err-own : goal.returns-in_err-own
returns-in_err-own c =
    let path = path_of c.args.part.path in
    let draft = draft_of c.args.types.now c.args.specs.now c.args.signals.now.signals in
    let d = view c.args.part.value.now in
    let at_base : c.as_str.result.now ≡ under path (codes "implements") = c.as_str.ensures.value ∙ c.in_ok-path.ensures in
    let e = c.in_err-own.field-0.0 in
    let p = err_from_is_err_and c.from_residual-in_err-own.result c.from_residual-in_err-own.ensures.1 in
    rw (p.1, p.2) (own_fails path c.args.names.now draft c.args.parent d c.as_str.result.now (items_view c.args.items.now) c.in_ok-named.named.items at_base c.in_ok-named.ensures e
    (fails_from own_named e (own_ahead path c.args.types.now c.args.names.now (own_of c.args.specs.now) c.args.parent d) c.in_err-own.ensures))

pub returns-in_err-own_signals : goal.returns-in_err-own_signals
returns-in_err-own_signals c =
    let path = path_of c.args.part.path in
    let draft = draft_of c.args.types.now c.args.specs.now c.args.signals.now.signals in
    let d = view c.args.part.value.now in
    let at_base : c.as_str.result.now ≡ under path (codes "implements") = c.as_str.ensures.value ∙ c.in_ok-path.ensures in
    let e = c.in_err-own_signals.field-0.0 in
    let o = was_read own_named (own_ahead path c.args.types.now c.args.names.now (own_of c.args.specs.now) c.args.parent d) (own_named (map own_view c.in_ok-own.own.entries)) c.in_ok-own.ensures in
    let p = err_from_is_err_and c.from_residual-in_err-own_signals.result c.from_residual-in_err-own_signals.ensures.1 in
    rw (p.1, p.2) (signals_fail path c.args.names.now draft c.args.parent d c.as_str.result.now (items_view c.args.items.now) c.in_ok-named.named.items at_base c.in_ok-named.ensures e o.0 o.1
    (fails_from are_named e (own_signals_ahead path d) c.in_err-own_signals.ensures))

pub returns-in_err-implemented : goal.returns-in_err-implemented
returns-in_err-implemented c =
    let path = path_of c.args.part.path in
    let draft = draft_of c.args.types.now c.args.specs.now c.args.signals.now.signals in
    let d = view c.args.part.value.now in
    let base = c.as_str.result.now in
    let items = items_view c.args.items.now in
    let at_base : base ≡ under path (codes "implements") = c.as_str.ensures.value ∙ c.in_ok-path.ensures in
    let o = was_read own_named (own_ahead path c.args.types.now c.args.names.now (own_of c.args.specs.now) c.args.parent d) (own_named (map own_view c.in_ok-own.own.entries)) c.in_ok-own.ensures in
    let s = was_read are_named (own_signals_ahead path d) _ c.in_ok-own_signals.ensures in
    let heir = heir_with draft c.args.parent c.as_slice-interfaces.result.now (map own_view c.in_ok-own.own.entries) (names_of c.in_ok-own_signals.own_signals.keys) in
    let p = err_from_is_err_and c.from_residual-in_err-implemented.result c.from_residual-in_err-implemented.ensures.1 in
    rw (p.1, p.2) (fails_as c.in_err-implemented.field-0.0 _ _
    (listed_with path c.args.names.now draft c.args.parent d base items c.as_slice-interfaces.result.now c.in_ok-named.named.items o.0 s.0 at_base c.in_ok-named.ensures c.as_slice-interfaces.ensures.value o.1 s.1
    ∙ reads_same heir o.0 s.0 o.2 (λ name. ap (λ (f : List ℕ → Bool). f name) s.2 ∙ named_among c.in_ok-own_signals.own_signals name) base items)
    c.in_err-implemented.ensures)

pub returns : goal.returns
returns c =
    let path = path_of c.args.part.path in
    let draft = draft_of c.args.types.now c.args.specs.now c.args.signals.now.signals in
    let d = view c.args.part.value.now in
    let base = c.as_str.result.now in
    let items = items_view c.args.items.now in
    let at_base : base ≡ under path (codes "implements") = c.as_str.ensures.value ∙ c.in_ok-path.ensures in
    let o = was_read own_named (own_ahead path c.args.types.now c.args.names.now (own_of c.args.specs.now) c.args.parent d) (own_named (map own_view c.in_ok-own.own.entries)) c.in_ok-own.ensures in
    let s = was_read are_named (own_signals_ahead path d) _ c.in_ok-own_signals.ensures in
    let heir = heir_with draft c.args.parent c.as_slice-interfaces.result.now (map own_view c.in_ok-own.own.entries) (names_of c.in_ok-own_signals.own_signals.keys) in
    listed_with path c.args.names.now draft c.args.parent d base items c.as_slice-interfaces.result.now c.in_ok-named.named.items o.0 s.0 at_base c.in_ok-named.ensures c.as_slice-interfaces.ensures.value o.1 s.1
    ∙ reads_same heir o.0 s.0 o.2 (λ name. ap (λ (f : List ℕ → Bool). f name) s.2 ∙ named_among c.in_ok-own_signals.own_signals name) base items
    ∙ c.in_ok-implemented.ensures
