use Rattle.std.proofs.Common.{◌∙◌, List, sym, ap, map}
use Rattle.std.proofs.lemmas.Result.{err_from_is_err_and}
use Rattle.json_trees.specs.View.{items_view}
use Rattle.param_specs.specs.Table.{own_of}
use Rattle.definition_format.specs.Denoted.Overrides.{own_named}
use Rattle.read_parts.proofs.Chains.{fails_as}
use Rattle.read_types.specs.OverrideView.{Entry, own_view}
use Rattle.read_types.proofs.OwnAhead.{owned_are}
use Rattle.read_types.proofs.overrides.read_own_entries.Goals as goal

pub returns-in_err-read_each : goal.returns-in_err-read_each
returns-in_err-read_each c =
    let begun = ap (λ (es : List Entry). own_named (map own_view es)) c.new-own.ensures.empty in
    let p = err_from_is_err_and c.from_residual.result c.from_residual.ensures.1 in
    rw (p.1, p.2) (fails_as c.in_err-read_each.field-0.0 _ _
    (sym (owned_are c.args.types.now c.args.names.now (own_of c.args.specs.now) c.args.parent c.args.list.path.now (own_named (map own_view c.new-own.result.entries)) (items_view c.args.list.items.now) begun))
    c.in_err-read_each.ensures.read)

pub returns : goal.returns
returns c =
    let begun = ap (λ (es : List Entry). own_named (map own_view es)) c.new-own.ensures.empty in
    sym (owned_are c.args.types.now c.args.names.now (own_of c.args.specs.now) c.args.parent c.args.list.path.now (own_named (map own_view c.new-own.result.entries)) (items_view c.args.list.items.now) begun)
    ∙ c.in_ok-read_each.ensures.read
